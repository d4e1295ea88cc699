-- Cited by crates above. The first place in a list at which a test passes.
pub use Rattle.name_set.proofs.Positions.{next_place, position_cons, position-map, position-push_found, position-push_new, list_any-no_place, slice_get-push_cases}
