-- The lemmas of `sequences`, for the crates above.
pub use Rattle.sequences.proofs.Elements.{same_lists, get_set_same, get_set_other, get_set, each_set, each_changed}
pub use Rattle.sequences.proofs.Elements.{get_replicate, each_replicate, count_replicate, count_set, get_within}
pub use Rattle.sequences.proofs.Elements.{position_passes, position_finds, none_passes, none_far, position_none}
pub use Rattle.sequences.proofs.Elements.{length_counted, no_some, as_number, count_positive, get_read, none_counted}
pub use Rattle.sequences.proofs.Changes.{alter, changed_is, changed_two, changed_again, changed_there, set_again}
