use Rattle.fx_lasting.proofs.{bit_at, bit_of, list_place, IsIdleIn, ◌≡◌, ℕ, ◌+◌, ◌-◌, ◌*◌, ◌/◌, ◌^◌, ◌≤◌, ◌<◌, ◌∙◌, refl, sym, ap, subst, arith, Sat}
use Rattle.fx_lasting.proofs.{File, HasVisited, IsAtWork, Start, round_to, w64, trailing_zeros, list_inside, still_at_work, runs_goes}
use Rattle.fx_lasting.proofs.hold_lemmas.Rounds.{words_at, loads_more, from_here, goes_past, idle_at, lowest, none_left, shifted, passed_by}
use Rattle.fx_lasting.proofs.hold_lemmas.Skimming.{skims_keep}
use Rattle.fx_lasting.proofs.table.LastingTable.charge_listed.Goals.{After-load-rest}
use Rattle.fx_lasting.proofs.table.LastingTable.charge_listed.Goals as goal

pub list_place-requires : goal.list_place-requires
list_place-requires c = let at = c.requires.visited.7 in let b = c.args.self.now.bounds in
    (omega (arith, at), omega (arith, c.requires.low, b.1))

pub load-rest-requires : goal.load-rest-requires
load-rest-requires c =
    let t = c.args.self.now in
    let at = c.requires.at in
    let v = c.requires.visited in
    let h = v.8 in (
      c.requires.table,
      list_inside t (omega (arith, c.requires.low, t.bounds.1)) c.list_place.ensures,
      skims_keep _ _ _ _ c.args.node v.2 v.6 v.4 (round_to h.next v.4 v.5) v.1 c.args.seat.now.me _ at.pass h.does.work refl
          (omega (arith, v.7, c.requires.low, t.bounds.1)) (let near = h.near in omega (arith, v.7))
          (λ p low high. passed_by (round_to h.next v.4 v.5) (sym at.its_number) (h.passed p low (omega (arith, high, v.7))))
          (omega (arith, c.list_place.ensures, v.7)),
    )

-- the word of the list was loaded
module _ (c : After-load-rest) where
  at : IsAtWork c.args.self.now.table.shared.key c.args.number c.load-rest.new.seat.me
  at = let v = c.requires.visited in let h = v.8 in
      still_at_work c.requires.at (runs_goes (c.load-rest.ensures.2.goes v.1 c.args.node v.2 (round_to h.next v.4 v.5) v.6 h.does.work))

  abbrev word : ℕ
  word = c.load-rest.result

  -- the first of the 64 passes is the first of a word
  first_is : c.args.first ≡ 64 * c.requires.visited.4 + 1
  first_is = c.requires.visited.7

  loaded : (m : Sat) (f : File) (takes begin words last charges : ℕ) → c.args.first ≡ 64 * words + 1
      → HasVisited c.args.self.now.passes c.args.number c.args.node f takes begin words last c.args.first charges m c.args.seat.now.me
      → HasVisited c.args.self.now.passes c.args.number c.args.node f takes begin (words_at c.args.first) word c.args.first charges m c.load-rest.new.seat.me
  loaded m f takes begin words last charges is h = loads_more is c.requires.low c.list_place.ensures h c.load-rest.ensures.2

  -- the round, as one that begins here
  here : (begin : ℕ) × HasVisited c.args.self.now.passes c.args.number c.args.node c.requires.visited.1 c.requires.visited.2 begin (words_at c.args.first) word
      c.args.first c.requires.visited.6 c.load-rest.new.seat.me c.load-rest.new.seat.me
  here = let v = c.requires.visited in from_here (loaded v.0 v.1 v.2 v.3 v.4 v.5 v.6 v.7 v.8) at

-- the bits that are left, from a pass on that has not been passed yet
module _ (a : After-load-rest) (pass rest : ℕ) (low : a.args.first ≤ pass) (high : pass ≤ a.args.first + 64)
    (left : rest ≡ word a / 2 ^ (pass - a.args.first)) where
  fits : word a < 2 ^ 64
  fits = omega arith

  abbrev next : ℕ
  next = pass + trailing_zeros w64 rest

  module _ (some : 0 < rest) where
    found : ((pass - a.args.first) + trailing_zeros w64 rest < 64) × (bit_at (word a) ((pass - a.args.first) + trailing_zeros w64 rest) ≡ 1)
        × ((i : ℕ) → pass - a.args.first ≤ i → i < (pass - a.args.first) + trailing_zeros w64 rest → bit_at (word a) i ≡ 0)
    found = rw left (lowest (word a) (pass - a.args.first) fits (rw (← left) some))

    near : next < a.args.first + 64
    near = omega (arith, found.0, low)

    -- the next pass that is listed is one of the table
    inside : next ≤ a.args.self.now.passes
    inside = let t = a.args.self.now in let is = first_is a in let few = t.bounds.1 in
        let index : (pass - a.args.first) + trailing_zeros w64 rest ≡ bit_of next = omega (arith, is, found.0, low) in
        let place : list_place next ≡ a.list_place.result = omega (arith, is, found.0, low, a.list_place.ensures) in
        let high : next ≤ 1024 = omega (arith, is, near, a.requires.low, few) in
        let l = a.load-rest.ensures.2.inside next (omega (arith, low, is)) high place (ap (bit_at (word a)) (sym index) ∙ found.1) in
        omega (arith, l, ap (λ (k : Start). k.passes) a.requires.at.pass.0, t.key.0)

    idle : (n p : ℕ) → pass ≤ p → p < next → IsIdleIn (round_to n (words_at a.args.first) (word a)) p
    idle n = idle_at n a.requires.visited.4 (word a) (first_is a) low (omega (arith, near)) (λ i from before. found.2 i from (omega (arith, before, low)))

  -- no bit is left
  idle_on : rest ≡ 0 → (n p : ℕ) → pass ≤ p → p < a.args.first + 64 → IsIdleIn (round_to n (words_at a.args.first) (word a)) p
  idle_on none n = idle_at n a.requires.visited.4 (word a) (first_is a) low (omega arith) (λ i from before. none_left (word a) (pass - a.args.first) fits (sym left ∙ none) i from)

pub visit-charges-requires : goal.visit-charges-requires
visit-charges-requires c =
    let a = (goal.at.visit-charges-requires c).After-load-rest in
    let i = c.loop-rest.invariant in
    let v = c.requires.visited in
    let some : 0 < c.loop-rest.rest = omega (arith, c.loop-rest-test.true) in
    let past = i.visited c.load-rest.new.seat.me v.1 v.2 (here a).0 v.6 (here a).1 in
    record {
      table = i.table ∙ (c.load-rest.ensures.0 ∙ c.requires.table);
      at = still_at_work (at a) past.does;
      pass = inside a c.loop-rest.pass c.loop-rest.rest i.low i.high i.left some;
      visited = (
        c.load-rest.new.seat.me,
        v.1,
        v.2,
        (here a).0,
        words_at c.args.first,
        word a,
        v.6 + c.loop-rest.charges,
        goes_past (omega arith) (idle a c.loop-rest.pass c.loop-rest.rest i.low i.high i.left some c.loop-rest.pass) past,
      );
    }

pub loop-rest-preserved : goal.loop-rest-preserved
loop-rest-preserved c =
    let a = (goal.at.loop-rest-preserved c).After-load-rest in
    let i = c.loop-rest.invariant in
    let some : 0 < c.loop-rest.rest = omega (arith, c.loop-rest-test.true) in
    let pass = c.loop-rest.pass in
    let rest = c.loop-rest.rest in
    let bit = found a pass rest i.low i.high i.left some in
    let did = c.visit-charges.ensures in
    record {
      table = did.table ∙ i.table;
      places = did.places ∙ i.places;
      low = let l = i.low in omega arith;
      high = let l = i.low in omega (arith, bit.0);
      few = let l = i.few in let one = did.one in omega arith;
      left = let l = i.low in ap (λ (z : ℕ). z / 2 ^ trailing_zeros w64 rest / 2) i.left
          ∙ (shifted (word a) (pass - c.args.first) (fits a pass rest i.low i.high i.left) (trailing_zeros w64 rest)
          ∙ ap (λ (z : ℕ). word a / 2 ^ z) (omega (arith, l)));
      visited = λ m f takes begin charges h.
          let past = goes_past (omega arith) (idle a pass rest i.low i.high i.left some pass) (i.visited m f takes begin charges h) in
          let sum : (charges + c.loop-rest.charges) + c.visit-charges.result ≡ charges + (c.loop-rest.charges + c.visit-charges.result) = omega arith in
          subst (λ (z : ℕ). HasVisited c.args.self.now.passes c.args.number c.args.node f takes begin (words_at c.args.first) (word a)
          (pass + trailing_zeros w64 rest + 1) z m c.visit-charges.new.seat.me) sum
          (did.visited m f takes begin (words_at c.args.first) (word a) (charges + c.loop-rest.charges) past);
    }

pub returns-clause-visited : goal.returns-clause-visited
returns-clause-visited c =
    let a = (goal.at.returns-clause-visited c).After-load-rest in
    let i = c.loop-rest.invariant in
    let none : c.loop-rest.rest ≡ 0 = omega (arith, c.loop-rest-test.false) in (
      word a,
      λ m f takes begin words last charges is h.
          let count : words_at c.args.first ≡ words + 1 = omega (arith, is) in
          subst (λ (z : ℕ). HasVisited c.args.self.now.passes c.args.number c.args.node f takes begin z (word a) (c.args.first + 64)
          (charges + c.loop-rest.charges) m c.loop-rest.seat.me) count
          (goes_past i.high (idle_on a c.loop-rest.pass c.loop-rest.rest i.low i.high i.left none c.loop-rest.pass)
          (i.visited m f takes begin charges (loaded a m f takes begin words last charges is h))),
    )
