use Rattle.check_certificate.specs.declared.certificate.Step.{Step}
use Rattle.check_reason.specs.declared.assembly.ReasonStep.{ReasonStep}
use Rattle.std.proofs.Common.{◌≡◌, ◌∙◌, ◌++◌, ◌∷◌, ◌+◌, ◌<◌, [], ℕ, List, ap, length, map, slice_index_or, sym, take}
use Rattle.std.proofs.lemmas.List.{map-append, take_more}
use Rattle.check_reason.proofs.reason.steps_alone.Goals as goal

-- a list of steps, and the next one
pushed : (xs : List ReasonStep) (k : ℕ) (d : ReasonStep) (before after : List Step) → k < length xs
    → after ≡ before ++ (slice_index_or xs k d).step ∷ [] → before ≡ map (λ (it : ReasonStep). it.step) (take k xs)
    → after ≡ map (λ (it : ReasonStep). it.step) (take (k + 1) xs)
pushed xs k d before after low is front = is
    ∙ (ap (λ (l : List Step). l ++ (slice_index_or xs k d).step ∷ []) front
    ∙ (sym (map-append (λ (it : ReasonStep). it.step) (take k xs) (slice_index_or xs k d ∷ []))
    ∙ sym (ap (map (λ (it : ReasonStep). it.step)) (take_more xs k d low))))

pub loop-it-preserved : goal.loop-it-preserved
loop-it-preserved c =
    pushed c.args.steps.now c.loop-it.it-index _ c.loop-it.certificate.items c.push.new.self.items c.loop-it-test.true c.in_ok-push.ensures.items
    c.loop-it.invariant
