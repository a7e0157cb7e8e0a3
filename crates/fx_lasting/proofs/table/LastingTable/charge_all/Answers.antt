use Rattle.fx_lasting.proofs.{◌≡◌, ℕ, ◌+◌, ◌*◌, ◌≤◌, ◌⊎◌, ◌∙◌, arith, refl, ⊎_elim, dite, dec_le, round_to, still_at_work, runs_within, placed_none}
use Rattle.fx_lasting.proofs.table.LastingTable.charge_all.Goals as goal

pub loop-pass-init : goal.loop-pass-init
loop-pass-init c = record {
  table = refl;
  places = refl;
  near = let a = c.requires.first in let b = c.args.self.now.bounds in ⊎_elim (λ one. omega (arith, one, b.0)) (λ all. omega (arith, all)) a;
  few = omega arith;
  visited = (
    0,
    0,
    omega arith,
    λ f takes works. record {
      next = c.args.first;
      near = omega arith;
      inside = ⊎_elim (λ one. omega (arith, one)) (λ all. omega (arith, all)) c.requires.first;
      passed = λ p low high. absurd (omega (arith, low, high));
      most = 0;
      few = omega arith;
      fewer = λ low high. absurd (omega (arith, low, high));
      does = placed_none c.requires.at works;
    },
  );
}

-- the round begins with the first pass
begins_low : {first passes pass : ℕ} (words : ℕ) → (first ≡ 1) ⊎ (first ≡ passes + 1) → pass ≡ first + 64 * words → pass ≤ passes → first ≡ 1
begins_low words either at low = ⊎_elim (λ one. one) (λ all. absurd (omega (arith, all, at, low))) either

pub charge_listed-charges-requires-clause-at : goal.charge_listed-charges-requires-clause-at
charge_listed-charges-requires-clause-at c = let r = c.requires.retiring in
    still_at_work c.requires.at (c.loop-pass.invariant.visited.3 r.0 r.1 r.2).does

pub charge_listed-charges-requires-clause-visited : goal.charge_listed-charges-requires-clause-visited
charge_listed-charges-requires-clause-visited c =
    let r = c.requires.retiring in
    let v = c.loop-pass.invariant.visited in
    let one = begins_low v.0 c.requires.first v.2 c.loop-pass-test.true in
    (c.args.seat.now.me, r.0, r.1, c.args.first, v.0, v.1, c.loop-pass.charges, omega (arith, one, v.2), v.3 r.0 r.1 r.2)

pub loop-pass-preserved : goal.loop-pass-preserved
loop-pass-preserved c =
    let i = c.loop-pass.invariant in
    let v = i.visited in
    let test = c.loop-pass-test.true in
    let one = begins_low v.0 c.requires.first v.2 test in
    let did = c.charge_listed-charges.ensures in
    record {
      table = did.table ∙ i.table;
      places = did.places ∙ i.places;
      near = omega (arith, test);
      few = let a = i.few in let b = did.few in omega arith;
      visited = (
        v.0 + 1,
        did.visited.0,
        omega (arith, v.2),
        λ f takes works. did.visited.1 _ f takes c.args.first v.0 v.1 c.loop-pass.charges (omega (arith, one, v.2)) (v.3 f takes works),
      );
    }

pub returns-clause-few : goal.returns-clause-few
returns-clause-few c = let i = c.loop-pass.invariant in let a = i.few in let b = i.near in
    ⊎_elim (λ one. omega (arith, one)) (λ all. omega (arith, all)) c.requires.first

pub returns-clause-charged : goal.returns-clause-charged
returns-clause-charged c f takes works =
    let t = c.args.self.now in
    let i = c.loop-pass.invariant in
    let v = i.visited in
    let h = v.3 f takes works in
    let done = c.loop-pass-test.false in
    let near = i.near in
    let number_low = c.requires.at.low in
    let number_high : c.args.number ≤ t.passes = omega (arith, c.requires.at.high, t.key.0) in
    let few = h.few in
    let inside = h.inside in (
      round_to h.next v.0 v.1,
      refl,
      λ p l u. h.passed p l (omega (arith, u, done)),
      runs_within
          (⊎_elim
          (λ (one : c.args.first ≡ 1). dite (dec_le (c.args.number + 1) h.next)
          (λ before. let e = h.fewer (omega (arith, one, number_low)) (omega (arith, before)) in omega (arith, e, one, v.2, near, done, number_low, number_high))
          (λ after. omega (arith, few, after, one, v.2, near, done, number_low, number_high)))
          (λ (all : c.args.first ≡ t.passes + 1). omega (arith, few, inside, all, v.2, near))
          c.requires.first)
          h.does,
    )
