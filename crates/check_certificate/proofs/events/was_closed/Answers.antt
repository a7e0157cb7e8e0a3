use Rattle.check_certificate.proofs.Words.{◌∙◌, arith, refl, rules, FileClosed, closes_file, happening_of, file_Decides, common_steps}
use Rattle.check_certificate.proofs.Forcing.{logged_any}
use Rattle.check_certificate.proofs.events.was_closed.Goals as goal

pub returns-clause-exact : goal.returns-clause-exact
returns-clause-exact c = first_of (search rules, grind (arith, common_steps))

pub returns-clause-sound : goal.returns-clause-sound
returns-clause-sound c = λ inside. returns-clause-exact c ∙ logged_any (λ event. closes_file c.args.file (happening_of event)) c.args.events.now (FileClosed c.args.file)
    (λ event same. rw same ((file_Decides c.args.file c.args.file).1 refl)) inside
