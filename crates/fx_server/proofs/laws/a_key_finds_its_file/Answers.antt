use Rattle.fx_server.proofs.KeysFindFiles.{finds_its_file, their_numbers}
use Rattle.fx_server.proofs.laws.a_key_finds_its_file.Goals as goal

pub returns-clause-numbers : goal.returns-clause-numbers
returns-clause-numbers c = their_numbers

pub returns-clause-finds : goal.returns-clause-finds
returns-clause-finds c = finds_its_file
