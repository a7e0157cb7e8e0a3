use Rattle.check_certificate.proofs.Words.{◌∙◌, arith, refl, rules, Freed, frees_look, happening_of, Decides-eqb, common_steps}
use Rattle.check_certificate.proofs.Forcing.{logged_any}
use Rattle.check_certificate.proofs.events.was_freed.Goals as goal

pub returns-clause-exact : goal.returns-clause-exact
returns-clause-exact c = first_of (search rules, grind (arith, common_steps))

pub returns-clause-sound : goal.returns-clause-sound
returns-clause-sound c = λ inside. returns-clause-exact c ∙ logged_any (λ event. frees_look c.args.look (happening_of event)) c.args.events.now (Freed c.args.look)
    (λ event same. rw same ((Decides-eqb c.args.look c.args.look).1 refl)) inside
