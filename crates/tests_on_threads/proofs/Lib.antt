mod Waiting
mod Begun
mod FedBeginning
