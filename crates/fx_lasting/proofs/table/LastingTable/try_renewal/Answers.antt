use Rattle.fx_lasting.proofs.{ap, sym, subst, refl, arith, ◌∙◌, ◌+◌, ◌<◌, ◌^◌, List, ℕ, get_elem?, HoldsBesides, Start, Work, as_written, label_of}
use Rattle.fx_lasting.proofs.{is_guarding, Ok, SawIf, slot_low, at_swapped, still_at_work, IsBeside}
use Rattle.fx_lasting.proofs.slot_lemmas.RenewalTries.{its_hold, its_left, renewal_failed, renewal_missed, renewal_won, renewed_it}
use Rattle.fx_lasting.proofs.slot_lemmas.Renewals.{replaces_held_keep}
use Rattle.fx_lasting.proofs.table.LastingTable.try_renewal.Goals.{After-see}
use Rattle.fx_lasting.proofs.table.LastingTable.try_renewal.Goals as goal

pub returns-in-Err : goal.returns-in-Err
returns-in-Err c = let saw = c.in-Err.ensures.saw in record {
  table = c.see.ensures.table;
  tried = renewal_missed c.args.self.now.table.shared.key c.args.slot c.args.node c.args.own c.args.file c.args.seat.now.me c.see.new.seat.me c.in-Err.miss
      saw.0 saw.2 saw.1 c.see.ensures.places;
}

-- the pass holds the file still, and has the place of its own node
beside : (c : After-see) (word : ℕ) → SawIf c.args.self.now.table.shared.key c.args.slot c.args.node c.args.seat.now.me (Ok word) c.see.new.seat.me
    → IsBeside c.args.node c.args.own c.args.lost c.args.file c.see.new.seat.me
beside c word saw = let b = c.requires.beside in record {
  held = b.held;
  work = subst (λ (w : Work). HoldsBesides w b.held c.args.node c.args.own (as_written c.args.lost (label_of c.args.file))) (sym saw.2.work) b.work;
  few_lost = b.few_lost;
  place = c.see.ensures.places ∙ b.place;
  stocked = (b.stocked.0, ap (λ (l : List ℕ). get_elem? l b.stocked.0) saw.2.stock ∙ b.stocked.1);
}

pub overflow_add-new : goal.overflow_add-new
overflow_add-new c = let few = c.requires.beside.few_lost in let made = c.file_word.ensures in omega arith

pub try_exchange-requires : goal.try_exchange-requires
try_exchange-requires c =
    let saw = c.in-Ok.ensures.saw in
    let b = beside (goal.at.try_exchange-requires c).After-see c.in-Ok.word saw in
    let at = still_at_work c.requires.at saw.2 in
    let small : c.args.file.entry < 2 ^ 8 = omega arith in
    record {
      table = c.see.ensures.table ∙ c.requires.table;
      at = (c.args.number, at);
      slot = c.requires.slot;
      named = saw.0;
      may = λ slots id old tries m' still places named. replaces_held_keep _ slots id _ c.args.slot c.args.own c.args.lost old _ c.args.node c.args.file b.held m' _
          (still_at_work at still).pass
          (subst (λ (w : Work). HoldsBesides w b.held c.args.node c.args.own (as_written c.args.lost (label_of c.args.file))) (sym still.work) b.work)
          (places ∙ b.place) small named (slot_low c.args.self.now c.requires.slot) (still.change ∙ (saw.2.change ∙ c.requires.change)) refl
          (ap (λ (z : ℕ). z + c.args.lost) c.file_word.ensures);
      loses = λ st m found m' did. did.loses;
    }

pub end_hold-requires : goal.end_hold-requires
end_hold-requires c =
    let k : Start = c.args.self.now.table.shared.key in
    let saw = c.in-Ok.ensures.saw in
    let b = beside (goal.at.end_hold-requires c).After-see c.in-Ok.word saw in
    let at = still_at_work c.requires.at saw.2 in
    let guards = ap is_guarding saw.2.work ∙ sym c.requires.guarded in
    let found = c.in-Ok-try_exchange.found in
    let won = renewed_it at c.args.slot c.args.node c.args.own c.args.lost (c.file_word.result + c.args.lost) c.args.file b (Ok found) c.try_exchange.new.seat.me
    c.in-Ok-try_exchange.ensures.tried in
    let m₁ = c.see.new.seat.me in
    record {
      table = c.try_exchange.ensures.table ∙ (c.see.ensures.table ∙ c.requires.table);
      at = still_at_work (at_swapped at b.stocked.0 c.args.node won.1.4) (won.1.6 b.stocked.0 b.stocked.1).2;
      left = its_left k c.args.slot c.args.node c.args.own c.args.file c.args.seat.now.me m₁ c.try_exchange.new.seat.me found saw.2 won c.args.guarded guards b.stocked;
      hold = its_hold k c.args.slot c.args.node c.args.own c.args.file c.args.seat.now.me m₁ c.try_exchange.new.seat.me found saw.2 won c.args.guarded guards;
    }

pub returns-in-Ok-try_exchange : goal.returns-in-Ok-try_exchange
returns-in-Ok-try_exchange c =
    let k : Start = c.args.self.now.table.shared.key in
    let saw = c.in-Ok.ensures.saw in
    let b = beside (goal.at.returns-in-Ok-try_exchange c).After-see c.in-Ok.word saw in
    let guards = ap is_guarding saw.2.work ∙ sym c.requires.guarded in
    let found = c.in-Ok-try_exchange.found in
    let won = renewed_it (still_at_work c.requires.at saw.2) c.args.slot c.args.node c.args.own c.args.lost (c.file_word.result + c.args.lost) c.args.file b (Ok found)
    c.try_exchange.new.seat.me c.in-Ok-try_exchange.ensures.tried in
    let end = c.end_hold.ensures in
    record {
      table = end.table ∙ (c.try_exchange.ensures.table ∙ c.see.ensures.table);
      tried = renewal_won k c.args.slot c.args.node c.args.own c.args.file c.args.seat.now.me c.see.new.seat.me c.try_exchange.new.seat.me
          found saw.2 won c.args.guarded guards c.end_hold.new.seat.me c.end_hold.result end.ended end.named end.entry end.places;
    }

pub returns-in-Err-try_exchange : goal.returns-in-Err-try_exchange
returns-in-Err-try_exchange c = let saw = c.in-Ok.ensures.saw in record {
  table = c.try_exchange.ensures.table ∙ c.see.ensures.table;
  tried = renewal_failed c.args.self.now.table.shared.key c.args.slot c.args.node c.args.own c.args.file c.args.seat.now.me c.see.new.seat.me
      c.try_exchange.new.seat.me saw.1 saw.2 c.see.ensures.places c.in-Err-try_exchange.miss c.in-Err-try_exchange.ensures.tried;
}
