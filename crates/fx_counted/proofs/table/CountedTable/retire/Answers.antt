use Rattle.fx_counted.proofs.{◌≡◌, [], refl, ap, ◌∙◌, arith, subst, Some, ◌▷◌, Close, File, no_use, Retired, retired_of, retire_amount_of, Goes}
use Rattle.fx_counted.proofs.{node_place, HasPlace, pass_of, state_after_all, IsInside, TakesOut, Change, Idle, Retiring, Between, node_inside}
use Rattle.fx_counted.proofs.{its_pass, its_removal, adds_so, still_pass, let_go, out_and_home, retires_keep}
use Rattle.fx_counted.proofs.table.CountedTable.retire.Goals.{After-fetch_sub-found}
use Rattle.fx_counted.proofs.table.CountedTable.retire.Goals as goal

pub fetch_sub-found-requires : goal.fetch_sub-found-requires
fetch_sub-found-requires c =
    let t = c.args.self.now in let fits = c.requires.fits in let (f, doing) = c.requires.removed in let (work, value) = its_removal fits doing in
    let is = c.node_place-place.ensures ∙ ap (λ (r : Retired). node_place t.size r.node) value in (
      fits.table,
      node_inside t (subst (IsInside t.table.shared.key) work fits.seated.inside) is,
      retires_keep _ _ _ _ _ c.args.retired.takes f c.args.pass.now.seat.me _ (its_pass fits) work (rw t.same_size at is)
          (c.retire_amount-amount.ensures ∙ ap (λ (r : Retired). retire_amount_of r.takes) value),
    )

-- the result of the step, for the file that the pass removed
module _ (c : After-fetch_sub-found) where
  abbrev file : File
  file = c.requires.removed.0

  its : (c.args.pass.now.seat.me.0.work ≡ Between (Retiring file c.args.retired.takes)) × (c.args.retired ≡ retired_of file c.args.retired.takes)
  its = its_removal c.requires.fits c.requires.removed.1

  closes : c.fetch_sub-found.result ≡ c.retire_amount-amount.result → TakesOut c.args.pass.now.seat.me [] file c.fetch_sub-found.new.seat.me
  closes is = c.fetch_sub-found.ensures.2.closes file _ its.0 is

  place : c.fetch_sub-found.result ≡ c.retire_amount-amount.result
      → HasPlace c.args.self.now.table.shared.key c.args.retired.node (Some file.identity) c.fetch_sub-found.new.seat.me
  place is = grind (arith, closes)

pub returns-then-found-amount : goal.returns-then-found-amount
returns-then-found-amount c = grind (arith, let_go, state_after_all, pass_of, still_pass, adds_so)

pub take_out-requires-clause-place : goal.take_out-requires-clause-place
take_out-requires-clause-place c =
    let a = (goal.at.take_out-requires-clause-place c).After-fetch_sub-found in
    ((file a).identity, place a (omega (arith, c.if-found-amount.false)))

pub returns : goal.returns
returns c =
    let a = (goal.at.returns c).After-fetch_sub-found in let fits = c.requires.fits in let (f, doing) = c.requires.removed in
    let is : c.fetch_sub-found.result ≡ c.retire_amount-amount.result = omega (arith, c.if-found-amount.false) in
    let goes = subst (λ (z : Change). Goes c.args.pass.now.seat.me ([] ▷ Close f) no_use (Between Idle) z 2 c.take_out.new.seat.me)
    fits.seated.change (out_and_home (closes a is) c.take_out.ensures.rests) in
    record {
      fits = still_pass _ fits goes (c.take_out.ensures.table ∙ c.fetch_sub-found.ensures.0) c.take_out.ensures.empty tt refl refl (omega arith)
          (omega arith) refl;
      retired = (f, doing, (c.take_out.ensures.file (file a).identity (place a is), adds_so fits goes));
      steps = let few = goes.steps in omega arith;
    }
