use Rattle.check_certificate.proofs.Words.{◌∙◌, ap, sym, completed_of, asked_of, not}
use Rattle.check_certificate.proofs.Impossible.{impossible}
use Rattle.check_certificate.specs.Answers.{is_impossible}
use Rattle.check_certificate.proofs.answers.is_impossible.Goals as goal

pub returns-clause-sound : goal.returns-clause-sound
unfolding is_impossible
returns-clause-sound c = λ so _.
    impossible c.args.catalogue.now c.args.size (completed_of c.args.c.now) (asked_of c.args.request.now) (sym (ap not c.is_possible.ensures) ∙ so)

pub returns-clause-exact : goal.returns-clause-exact
unfolding is_impossible
returns-clause-exact c = ap not c.is_possible.ensures
