-- What the layers above need to know of sets, under one name. Each file says its part.
pub use Rattle.rset.proofs.SetMembers.{same_test, same_members, contains_in_items, contains_empty, contains_insert, contains_remove, contains_union, contains_intersection, contains_difference, empty_from_none, some_member, filled_by}
pub use Rattle.rset.proofs.SetsWithin.{within_at, within_from, within_reflexive, within_transitive, within_both, within_empty, empty_within, within_union_left, within_union_right, union_within, union_of_within, intersection_within_left, intersection_within_right, within_intersection, difference_within, within_insert, insert_within, remove_within, union_symmetric, union_associative, union_empty_left, union_empty_right, union_same, intersection_symmetric, insert_there, within_by_difference, difference_by_within}
pub use Rattle.rset.proofs.SetsMeet.{meets_from, meets_common, apart_from, apart_at, meets_symmetric, meets_within_left, meets_within_right, apart_within_left, apart_within_right, meets_empty_left, meets_empty_right, meets_union_right, meets_union_left, meets_insert_right, meets_insert_left, difference_apart, difference_of_apart, meets_by_intersection, apart_by_intersection, meets_itself}
pub use Rattle.rset.proofs.SetsBelow.{all_below_at, all_below_from, all_below_within, all_below_empty, all_below_union, all_below_intersection, all_below_difference, all_below_insert, all_below_remove}
pub use Rattle.rset.proofs.SetsRising.{rising_has, rising_member, rising_below, rising_head_member, rising_head_below, rising_at, rising_strict, from_list_rising, fold_rising, rising_injective, length_rising, rising_few, rising_empty, rising_next, rising_first}
