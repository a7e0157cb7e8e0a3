use Rattle.fx_script.proofs.{◌∙◌, ap, on_ok_weaker, new_ring, instructions_of, written_as, fails_as}
use Rattle.fx_script.proofs.player.play.Goals as goal

pub returns-clause-ok : goal.returns-clause-ok
returns-clause-ok g c =
    let start = c.new-ring.ensures ∙ ap new_ring c.into_parts-catalogue.ensures.catalogue in
    let same = ap instructions_of c.as_slice.ensures.value ∙ c.into_parts-catalogue.ensures.commands in
    on_ok_weaker c.play_commands-ring.result.1 (written_as _ _ (λ text prints. (c.new-ring.result, start, rw same at prints)))
    c.play_commands-ring.ensures.ok

pub returns-clause-fault : goal.returns-clause-fault
returns-clause-fault g c =
    let start = c.new-ring.ensures ∙ ap new_ring c.into_parts-catalogue.ensures.catalogue in
    let same = ap instructions_of c.as_slice.ensures.value ∙ c.into_parts-catalogue.ensures.commands in
    fails_as c.play_commands-ring.result.1 (written_as _ _ (λ text prints. (c.new-ring.result, start, rw same at prints)))
    c.play_commands-ring.ensures.fault
