use Rattle.fx_lasting.proofs.slot_lemmas.KeyLemmas.{keys_are_of_one_file, keys_come_back}
use Rattle.fx_lasting.proofs.laws.keys_are_of_one_file.Goals as goal

pub returns : goal.returns
returns c = record { files = keys_are_of_one_file; bits = keys_come_back }
