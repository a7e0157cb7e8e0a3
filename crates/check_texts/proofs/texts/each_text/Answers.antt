use Rattle.check_texts.proofs.{Contains, Some, ap, arith, concat, contains_map, contains_mapped, inl, inr, length, map, refl, slice_get}
use Rattle.check_texts.proofs.{slice_get_read, subst, suc, sym, zero, ℕ, ⊎_elim, ◌+◌, ◌∙◌, ◌<◌, ◌≡◌, ◌⊎◌, rests_in, ways_at, inserted, gotten}
use Rattle.check_texts.proofs.texts.each_text.Goals as goal

-- a number below the next one is below this one, or is it
below_more : (k n : ℕ) → k < n + 1 → (k < n) ⊎ (k ≡ n)
below_more zero zero low = inr refl
below_more zero (suc n) low = inl (omega arith)
below_more (suc k) zero low = absurd (omega (arith, low))
below_more (suc k) (suc n) low = ⊎_elim (λ less. inl (omega (arith, less))) (λ same. inr (ap suc same)) (below_more k n (omega (arith, low)))

pub loop-way-preserved : goal.loop-way-preserved
loop-way-preserved c =
    let ways = ways_at (rests_in c.args.rests.now) 0 in
    let put = inserted c.loop-way.texts.keys _ c.in_ok-insert.ensures.keys in
    let (lines, at, text_is) = rw c.in-Some.is at c.in_ok-text.ensures in
    record {
      each = λ text has. ⊎_elim (c.loop-way.invariant.each text)
          (λ is. subst (Contains (map concat ways)) (sym (is ∙ text_is)) (contains_mapped concat ways lines (gotten ways _ at)))
          (put.0.from text has);
      all = λ k one low there.
          ⊎_elim (λ before. put.0.kept (concat one) (c.loop-way.invariant.all k one before there))
          (λ here. let same : lines ≡ one = let e : Some lines ≡ Some one = sym at ∙ (ap (slice_get ways) (sym here) ∙ there) in cc in
          rw (ap concat (sym same), sym text_is) put.1)
          (below_more k c.loop-way.way (omega (arith, low)));
    }

pub returns-clause-all : goal.returns-clause-all
returns-clause-all c = λ yes count text has.
    let ways = ways_at (rests_in c.args.rests.now) 0 in
    let (lines, (k, low, at), is) = contains_map concat ways text has in
    rw is (c.loop-way.invariant.all k lines (omega (arith, low, count, c.loop-way-test.false))
    (slice_get_read ways (length ways) k lines refl low (sym at)))
