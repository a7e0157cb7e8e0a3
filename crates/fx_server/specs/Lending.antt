-- A handle lends its worker.
use Rattle.fx_server.specs.Words.{Lends, MutBor, Fml}
use Rattle.fx_server.specs.declared.handle.Handle.{Handle}
use Rattle.fx_server.specs.declared.worker.TableWorker.{TableWorker}
use Rattle.fx_server.specs.contracts.handle.Handle.{the_row}
use Rattle.fx_server.specs.contracts.worker.TableWorker as worker

-- the handle of this worker at the same pointer
abbrev pub with_worker : Handle → TableWorker → Handle
with_worker h w = record h { worker = w }

-- the handle ends with the last value of the worker that r lends
abbrev pub LendsWorker : MutBor Handle → MutBor TableWorker → Fml
LendsWorker h r = Lends the_row worker.the_row h r (with_worker h.now)
