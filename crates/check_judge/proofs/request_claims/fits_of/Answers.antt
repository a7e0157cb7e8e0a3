use Rattle.check_judge.proofs.{true, read_default}
use Rattle.check_judge.proofs.request_claims.fits_of.Goals as goal

pub loop-entry-init : goal.loop-entry-init
loop-entry-init c = λ file _. read_default 256 file.entry true
