use Rattle.fx_lasting.proofs.slot_lemmas.Current.{current_follows, old_was_replaced}
use Rattle.fx_lasting.proofs.laws.current_files_follow_changes.Goals as goal

pub returns : goal.returns
returns c = record { current = current_follows; old = old_was_replaced }
