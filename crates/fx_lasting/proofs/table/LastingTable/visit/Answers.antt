use Rattle.fx_lasting.proofs.{◌≡◌, ℕ, ◌+◌, ◌≤◌, ◌∙◌, ap, sym, subst, arith, rules, refl, inl, dite, ℕ_discrete, Retiring, Runs, [], round_to}
use Rattle.fx_lasting.proofs.{round_at, pass_at, announced, hold_place, File, Round, Sat, Start, LastingTable, hold_inside, hold_word, pass_back}
use Rattle.fx_lasting.proofs.{still_at_work, runs_goes, runs_within, does_then}
use Rattle.fx_lasting.proofs.hold_lemmas.Rounds.{passed_by, visited_more}
use Rattle.fx_lasting.proofs.hold_lemmas.Visiting.{visits_keep, charges_keep}
use Rattle.fx_lasting.proofs.table.LastingTable.visit.Goals as goal

pub load-word-requires : goal.load-word-requires
load-word-requires c =
    let t = c.args.self.now in
    let at = c.requires.at in
    let v = c.requires.visited in
    let h = v.7 in
    let round = round_to h.next v.4 v.5 in
    let inside : c.args.pass ≤ t.table.shared.key.passes = omega (arith, c.requires.pass, t.key.0) in (
      c.requires.table,
      hold_inside t inside c.hold_place-place.ensures,
      visits_keep _ _ _ _ c.args.node v.2 v.6 c.args.pass round v.1 c.args.seat.now.me _ at.pass h.does.work refl h.near inside
          (λ same. c.if-pass-number.false (same ∙ at.its_number)) (λ p low high. passed_by round (sym at.its_number) (h.passed p low high))
          (hold_word t refl c.hold_place-place.ensures),
    )

pub compare_exchange-found-requires : goal.compare_exchange-found-requires
compare_exchange-found-requires c =
    let t = c.args.self.now in
    let v = c.requires.visited in
    let h = v.7 in
    let round = round_to h.next v.4 v.5 in
    let inside : c.args.pass ≤ t.table.shared.key.passes = omega (arith, c.requires.pass, t.key.0) in
    let is : c.load-word.result ≡ announced c.args.node = search rules in
    let goes = c.load-word.ensures.2.names v.1 c.args.node v.2 round v.6 h.does.work is in
    let at = still_at_work c.requires.at (runs_goes goes) in (
      c.load-word.ensures.0 ∙ c.requires.table,
      hold_inside t inside c.hold_place-place.ensures,
      rw (c.announced-named.ensures, c.charged.ensures) (charges_keep _ _ _ _ c.args.node v.2 v.6 c.args.pass round v.1 c.load-word.new.seat.me _ at.pass
          goes.stepped.work refl h.near inside (λ same. c.if-pass-number.false (same ∙ at.its_number)) (λ p low high. passed_by round (sym at.its_number) (h.passed p low high))
          (hold_word t refl c.hold_place-place.ensures)),
    )

-- the pass whose hold word is at the place
here : (t : LastingTable) {k : Start} {pass place : ℕ} → k ≡ t.table.shared.key → place ≡ hold_place t.size pass → pass_at k place ≡ pass
here t {k} {pass} {place} same is =
    ap (λ (z : Start). pass_at z place) same ∙ (ap (pass_at t.table.shared.key) (hold_word t refl is) ∙ pass_back t.table.shared.key pass)

-- it was visited, and not charged
uncharged : {f : File} {node takes charges p pass : ℕ} (round : Round) {m m' : Sat} → p ≡ pass
    → Runs m [] (Retiring f node takes (round_at round p) charges) m.0.glance m.0.change 1 m'
    → Runs m [] (Retiring f node takes (round_at round pass) (charges + 0)) m.0.glance m.0.change 1 m'
uncharged {f} {node} {takes} {charges} round {m} {m'} same run = let none : charges ≡ charges + 0 = omega arith in
    subst (λ (z : ℕ × ℕ). Runs m [] (Retiring f node takes (round_at round z.0) z.1) m.0.glance m.0.change 1 m') (λ i. (same i, none i)) run

pub returns-then-pass-number-clause-visited : goal.returns-then-pass-number-clause-visited
returns-then-pass-number-clause-visited c m f takes first words last charges h =
    let is : c.args.pass ≡ c.args.number = c.if-pass-number.true in
    let near = h.near in
    let same : charges ≡ charges + 0 = omega arith in record {
      next = h.next;
      near = omega arith;
      inside = h.inside;
      passed = λ p low high. dite (ℕ_discrete p c.args.pass) (λ e. inl (e ∙ is)) (λ other. h.passed p low (omega (arith, other, high)));
      most = h.most;
      few = h.few;
      fewer = h.fewer;
      does = subst (λ (z : ℕ). Runs m [] (Retiring f c.args.node takes (round_to h.next words last) z) m.0.glance m.0.change h.most c.args.seat.now.me) same h.does;
    }

pub returns-then-word-named-clause-visited : goal.returns-then-word-named-clause-visited
returns-then-word-named-clause-visited c m f takes first words last charges h =
    let round = round_to h.next words last in
    let other = c.load-word.ensures.2.other f c.args.node takes round charges h.does.work (λ e. c.if-word-named.true (e ∙ sym c.announced-named.ensures)) in
    visited_more charges 0 c.requires.pass c.if-pass-number.false h (runs_within (omega arith)
    (uncharged round (here c.args.self.now c.requires.at.pass.0 c.hold_place-place.ensures) (runs_goes other)))

pub returns-then-found-named-clause-visited : goal.returns-then-found-named-clause-visited
returns-then-found-named-clause-visited c m f takes first words last charges h =
    let round = round_to h.next words last in
    let is : c.load-word.result ≡ announced c.args.node = search rules in
    let goes = c.load-word.ensures.2.names f c.args.node takes round charges h.does.work is in
    let made = c.compare_exchange-found.ensures.2.made f c.args.node takes round charges goes.stepped.work (c.if-found-named.true ∙ c.announced-named.ensures) in
    let m₁ = c.load-word.new.seat.me in
    visited_more charges 1 c.requires.pass c.if-pass-number.false h (does_then (runs_goes goes)
    (subst (λ (z : ℕ). Runs m₁ [] (Retiring f c.args.node takes (round_at round z) (charges + 1)) m₁.0.glance m₁.0.change 1 c.compare_exchange-found.new.seat.me)
    (here c.args.self.now (goes.stepped.start ∙ c.requires.at.pass.0) c.hold_place-place.ensures) (runs_goes made)))

pub returns-else-found-named-clause-visited : goal.returns-else-found-named-clause-visited
returns-else-found-named-clause-visited c m f takes first words last charges h =
    let round = round_to h.next words last in
    let is : c.load-word.result ≡ announced c.args.node = search rules in
    let goes = c.load-word.ensures.2.names f c.args.node takes round charges h.does.work is in
    let missed = c.compare_exchange-found.ensures.2.missed f c.args.node takes round charges goes.stepped.work (λ e. c.if-found-named.false (e ∙ sym c.announced-named.ensures)) in
    visited_more charges 0 c.requires.pass c.if-pass-number.false h (does_then (runs_goes goes)
    (uncharged round (here c.args.self.now (goes.stepped.start ∙ c.requires.at.pass.0) c.hold_place-place.ensures) (runs_goes missed)))
