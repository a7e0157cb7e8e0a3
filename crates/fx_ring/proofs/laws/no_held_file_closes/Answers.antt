use Rattle.fx_ring.proofs.Words.{List, subst, IsLegal, ◌▷◌, ◌▷▷◌, Event, no_close_while_held}
use Rattle.fx_ring.specs.Laws.{start_of_submission}
use Rattle.fx_ring.proofs.laws.no_held_file_closes.Goals as goal

pub returns : goal.returns
returns c = λ old new requests report one before since others look slot f is found kept.
    let legal : IsLegal (start_of_submission old requests) (before ▷ look ▷▷ since ▷▷ others) one.end =
    subst (λ (h : List Event). IsLegal (start_of_submission old requests) h one.end) is one.legal in
    no_close_while_held _ before since others look slot f legal.leads.0 legal.releases found kept
