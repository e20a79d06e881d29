mod Seats
