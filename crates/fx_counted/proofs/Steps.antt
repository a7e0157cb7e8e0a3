-- Lemmas of a step, passed on from one place. Declares nothing.
pub use Rattle.fx_counted.proofs.Frames.{IsHistory, busy, control_same, does_now, draws_same, legal_more, looks_few, node_same, owner_same, owner_stays}
pub use Rattle.fx_counted.proofs.Frames.{same_shape, slot_same, stays_same}
pub use Rattle.fx_table.proofs.Growing.{Grows, each_changed, grows_more, grows_none, grows_one, held_mine, part_mine}
pub use Rattle.fx_counted.proofs.Keeping.{Homes, Made, MayTurn, NodeIn, NodeStep, OneNumber, Turn, by_turn, control_now, draws_now, far, in_phase}
pub use Rattle.fx_counted.proofs.Keeping.{its_log, its_work, log_now, logged, near, node_agrees, node_now, now, one_same, passed, seat_in, sees_now}
pub use Rattle.fx_counted.proofs.Keeping.{slots_now, step_kept, tells, tells_none, tells_one, turn_of, went, word_at, words_now}
