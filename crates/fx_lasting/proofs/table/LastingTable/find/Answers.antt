use Rattle.fx_lasting.proofs.{refl, [], ◌∙◌, ◌▷◌, Full, true, false, HasAsked, opening_of, view_of, adds_then, no_use, DoesNothing, LastingPass}
use Rattle.fx_lasting.proofs.{MeetsMore, ℕ, ◌+◌, LastingTable, IsIdle, Adds, groups_in, at_rest, meets_then, still_pass}
use Rattle.fx_lasting.proofs.range_lemmas.Scanning.{follows, saw_emptying}
use Rattle.fx_lasting.specs.Ends.{Does}
use Rattle.fx_lasting.proofs.slot_lemmas.ByNode.{adds_none, was_before}
use Rattle.fx_lasting.proofs.range_lemmas.Questions.{asked_so}
use Rattle.fx_lasting.proofs.table.LastingTable.find.Goals as goal

-- what an idle pass adds that asked, isn't sure, and then looked on
looks_on : (t : LastingTable) {u v : LastingPass} (p : LastingPass) {m : ℕ} → HasAsked t 1 u false v → IsIdle (view_of u)
    → Does v.seat.me [] v.seat.me.0.work m p.seat.me → Adds (opening_of t.table.shared.key) (view_of u) [] DoesNothing no_use (view_of p)
looks_on t {u} {v} p h idle looks =
    let before = asked_so h idle in
    adds_then (opening_of t.table.shared.key) (view_of u) (view_of v) (view_of p) [] [] DoesNothing DoesNothing no_use no_use before
    (adds_none h.fits before.now looks)

pub returns-in-Some-clause-fits : goal.returns-in-Some-clause-fits
returns-in-Some-clause-fits c =
    let h : HasAsked c.args.self.now 1 c.args.pass.now false c.is_still_full.new.pass = rw c.if-is_still_full.false at c.is_still_full.ensures in
    let looks = c.in-Some.ensures.looks in
    still_pass h.fits.seated _ (at_rest h.fits looks.2) (refl, refl) c.look_for.ensures.table (c.look_for.ensures.places ∙ h.fits.seated.places)
    (refl, h.fits.seated.next) h.fits.knows

pub returns-in-Some-clause-found : goal.returns-in-Some-clause-found
returns-in-Some-clause-found c =
    let h : HasAsked c.args.self.now 1 c.args.pass.now false c.is_still_full.new.pass = rw c.if-is_still_full.false at c.is_still_full.ensures in
    let looks = c.in-Some.ensures.looks in
    let p : LastingPass = record c.is_still_full.new.pass { seat = c.look_for.new.seat; emptied = c.take_last-from.new.self } in (
      looks.0,
      record {
        was = was_before (view_of c.args.pass.now).front (asked_so h c.requires.idle).seen looks.1;
        adds = looks_on c.args.self.now p h c.requires.idle looks.2;
      },
    )

pub is_all_full-requires-clause-fits : goal.is_all_full-requires-clause-fits
is_all_full-requires-clause-fits c =
    let h : HasAsked c.args.self.now 1 c.args.pass.now false c.is_still_full.new.pass = rw c.if-is_still_full.false at c.is_still_full.ensures in
    let looks = c.in_default.ensures.looks in
    still_pass h.fits.seated _ (at_rest h.fits looks) (refl, refl) c.look_for.ensures.table (c.look_for.ensures.places ∙ h.fits.seated.places)
    (refl, h.fits.seated.next) h.fits.knows

pub returns-then-is_all_full-clause-found : goal.returns-then-is_all_full-clause-found
returns-then-is_all_full-clause-found c =
    let h : HasAsked c.args.self.now 1 c.args.pass.now false c.is_still_full.new.pass = rw c.if-is_still_full.false at c.is_still_full.ensures in
    let looks = c.in_default.ensures.looks in
    let p : LastingPass = record c.is_still_full.new.pass { seat = c.look_for.new.seat; emptied = c.take_last-from.new.self } in
    let before = looks_on c.args.self.now p h c.requires.idle looks in
    let asked : HasAsked c.args.self.now (groups_in c.args.self.now.range_len + 3) p true c.is_all_full.new.pass = rw c.if-is_all_full.true at c.is_all_full.ensures.asked in
    adds_then (opening_of c.args.self.now.table.shared.key) (view_of c.args.pass.now) (view_of p) (view_of c.is_all_full.new.pass) [] ([] ▷ Full) DoesNothing
    DoesNothing no_use no_use before (asked_so asked before.now)

pub returns-else-is_all_full-clause-found : goal.returns-else-is_all_full-clause-found
returns-else-is_all_full-clause-found c =
    let k = c.args.self.now.table.shared.key in
    let h : HasAsked c.args.self.now 1 c.args.pass.now false c.is_still_full.new.pass = rw c.if-is_still_full.false at c.is_still_full.ensures in
    let looks = c.in_default.ensures.looks in
    let p : LastingPass = record c.is_still_full.new.pass { seat = c.look_for.new.seat; emptied = c.take_last-from.new.self } in
    let short = c.is_all_full.ensures.short c.if-is_all_full.false in
    let before = looks_on c.args.self.now p h c.requires.idle looks in
    let asked : HasAsked c.args.self.now (groups_in c.args.self.now.range_len + 3) p false c.is_all_full.new.pass = rw c.if-is_all_full.false at c.is_all_full.ensures.asked in (
      adds_then (opening_of k) (view_of c.args.pass.now) (view_of p) (view_of c.is_all_full.new.pass) [] [] DoesNothing DoesNothing no_use no_use before
          (asked_so asked before.now),
      saw_emptying k c.args.pass.now c.is_still_full.new.pass p c.is_all_full.new.pass (asked_so h c.requires.idle).seen h.met (follows looks) (c.in_default.ensures.full refl) short,
    )

-- what a pass found that asked, and then looked on
met_on : (t : LastingTable) (u v p : LastingPass) {n : ℕ} → HasAsked t 1 u false v → Does v.seat.me [] v.seat.me.0.work n p.seat.me → MeetsMore u p
met_on t u v p h looks = meets_then u v p h.met (looks.met, looks.changes)

pub returns-in-Some-clause-met : goal.returns-in-Some-clause-met
returns-in-Some-clause-met c =
    let h : HasAsked c.args.self.now 1 c.args.pass.now false c.is_still_full.new.pass = rw c.if-is_still_full.false at c.is_still_full.ensures in
    met_on c.args.self.now c.args.pass.now c.is_still_full.new.pass (record c.is_still_full.new.pass { seat = c.look_for.new.seat; emptied = c.take_last-from.new.self }) h
    c.in-Some.ensures.looks.2

pub returns-then-is_all_full-clause-met : goal.returns-then-is_all_full-clause-met
returns-then-is_all_full-clause-met c =
    let h : HasAsked c.args.self.now 1 c.args.pass.now false c.is_still_full.new.pass = rw c.if-is_still_full.false at c.is_still_full.ensures in
    let p : LastingPass = record c.is_still_full.new.pass { seat = c.look_for.new.seat; emptied = c.take_last-from.new.self } in
    meets_then c.args.pass.now p c.is_all_full.new.pass (met_on c.args.self.now c.args.pass.now c.is_still_full.new.pass p h c.in_default.ensures.looks) c.is_all_full.ensures.asked.met

pub returns-else-is_all_full-clause-met : goal.returns-else-is_all_full-clause-met
returns-else-is_all_full-clause-met c =
    let h : HasAsked c.args.self.now 1 c.args.pass.now false c.is_still_full.new.pass = rw c.if-is_still_full.false at c.is_still_full.ensures in
    let p : LastingPass = record c.is_still_full.new.pass { seat = c.look_for.new.seat; emptied = c.take_last-from.new.self } in
    meets_then c.args.pass.now p c.is_all_full.new.pass (met_on c.args.self.now c.args.pass.now c.is_still_full.new.pass p h c.in_default.ensures.looks) c.is_all_full.ensures.asked.met
