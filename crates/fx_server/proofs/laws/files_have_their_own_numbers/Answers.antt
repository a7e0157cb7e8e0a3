use Rattle.fx_server.proofs.ExportsNumbers.{exports_keep}
use Rattle.fx_server.proofs.{own_numbers, opened_draw}
use Rattle.fx_server.proofs.laws.files_have_their_own_numbers.Goals as goal

pub returns-clause-numbers : goal.returns-clause-numbers
returns-clause-numbers c = own_numbers

pub returns-clause-exports : goal.returns-clause-exports
returns-clause-exports c = exports_keep

pub returns-clause-opened : goal.returns-clause-opened
returns-clause-opened c = opened_draw
