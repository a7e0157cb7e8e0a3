use Rattle.fx_chain.proofs.Words.{◌≡◌, ℕ, ℤ, pos, negsuc, int_le, sym, ap, ◌∙◌, rules, slice_index_or, to_z, of_z, w32, Option, append-nil}
use Rattle.std.specs.Global.{Vec}
use Rattle.fx_chain.proofs.Intents.{positions_more}
use Rattle.fx_chain.proofs.entries.positions_in.Goals.{then-entry-geminus1+in_ok-push, else-entry-geminus1}
use Rattle.fx_chain.proofs.entries.positions_in.Goals as goal

pub loop-i-preserved : goal.loop-i-preserved
loop-i-preserved c =
    let entry : ℤ = slice_index_or c.args.list.now c.loop-i.i (pos 0) in
    let read : to_z w32 (of_z w32 entry) ≡ entry = search rules in
    elim c.if-entry-geminus1.branch [
      | then-entry-geminus1+in_ok-push w ↦ positions_more c.args.list.now (pos 0) c.loop-i-test.true
          (ap (int_le (negsuc 0)) (sym read) ∙ w.if-entry-geminus1.true) c.loop-i.invariant
          (ap (λ (v : Vec (Option ℕ)). v.items) w.positions-is ∙ w.in_ok-push.ensures.items)
      | else-entry-geminus1 w ↦ positions_more c.args.list.now (pos 0) c.loop-i-test.true
          (ap (int_le (negsuc 0)) (sym read) ∙ w.if-entry-geminus1.false) c.loop-i.invariant
          (ap (λ (v : Vec (Option ℕ)). v.items) w.positions-is ∙ sym (append-nil c.loop-i.positions.items))
    ]
