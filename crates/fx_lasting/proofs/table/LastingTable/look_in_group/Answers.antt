use Rattle.fx_lasting.proofs.{◌∙◌, arith, ◌+◌, ◌-◌, ◌*◌, Some, None, LooksFor, still_at_work, runs_goes}
use Rattle.fx_lasting.proofs.Peeking.{may_peek}
use Rattle.fx_lasting.proofs.slot_lemmas.ByNode.{stands_then}
use Rattle.fx_lasting.proofs.range_lemmas.GapSearches.{looks_then, looks_within}
use Rattle.fx_lasting.proofs.range_lemmas.Scanning.{begins, ends, few_inside, slots_inside, peeked_full, full_lasts, follows, whole_group}
use Rattle.fx_lasting.proofs.table.LastingTable.look_in_group.Goals as goal

pub load-word-requires : goal.load-word-requires
load-word-requires c = may_peek c.args.self.now c.args.seat.now c.requires.table c.requires.at.1 c.requires.group c.group_place.ensures

pub returns-then-counts_all-clause-full : goal.returns-then-counts_all-clause-full
returns-then-counts_all-clause-full c none =
    peeked_full c.args.self.now c.args.group c.requires.at.1 c.group_place.ensures (c.counts_all.ensures.0 c.if-counts_all.true) c.load-word.ensures.2

pub look_between-requires : goal.look_between-requires
look_between-requires c = record {
  table = c.load-word.ensures.0 ∙ c.requires.table;
  at = (c.requires.at.0, still_at_work c.requires.at.1 (runs_goes c.load-word.ensures.2.goes));
  order = c.start_within-from.ensures.high;
  range = slots_inside c.args.self.now c.args.group c.group_size.ensures c.group_len.ensures _ _ c.start_within-from.ensures.low (omega arith);
}

pub look_between-requires-2 : goal.look_between-requires-2
look_between-requires-2 c = record {
  table = c.look_between.ensures.table ∙ (c.load-word.ensures.0 ∙ c.requires.table);
  at = (c.requires.at.0, still_at_work (still_at_work c.requires.at.1 (runs_goes c.load-word.ensures.2.goes)) c.in_default.ensures.looks);
  order = c.start_within-from.ensures.low;
  range = slots_inside c.args.self.now c.args.group c.group_size.ensures c.group_len.ensures _ _ (omega arith) c.start_within-from.ensures.high;
}

pub returns-in-Some-clause-looks : goal.returns-in-Some-clause-looks
returns-in-Some-clause-looks c =
    let k = c.args.self.now.table.shared.key in
    looks_within k c.args.seat.now.me c.look_between.new.seat.me (Some c.in-Some.found)
    (omega (arith, few_inside c.args.self.now c.args.group c.group_size.ensures c.group_len.ensures, c.start_within-from.ensures.low))
    (looks_then k c.args.seat.now.me c.load-word.new.seat.me c.look_between.new.seat.me _ (Some c.in-Some.found) (runs_goes c.load-word.ensures.2.goes) c.in-Some.ensures.looks)

pub returns-clause-looks : goal.returns-clause-looks
returns-clause-looks c =
    let k = c.args.self.now.table.shared.key in
    looks_within k c.args.seat.now.me c.look_between-2.new.seat.me c.look_between-2.result
    (omega (arith, few_inside c.args.self.now c.args.group c.group_size.ensures c.group_len.ensures, c.start_within-from.ensures))
    (looks_then k c.args.seat.now.me c.look_between.new.seat.me c.look_between-2.new.seat.me _ c.look_between-2.result
    (stands_then (runs_goes c.load-word.ensures.2.goes) c.in_default.ensures.looks) c.look_between-2.ensures.looks)

pub returns-clause-full : goal.returns-clause-full
returns-clause-full c none =
    let t = c.args.self.now in
    let k = t.table.shared.key in
    let last : LooksFor k (c.start_within-from.result - (t.range_start + c.args.group * c.group_size.result)) c.look_between.new.seat.me None c.look_between-2.new.seat.me =
    rw none at c.look_between-2.ensures.looks in
    whole_group (full_lasts k) k c.args.group _ c.start_within-from.result _ c.args.seat.now.me c.load-word.new.seat.me c.look_between.new.seat.me c.look_between-2.new.seat.me
    (begins t c.args.group c.group_size.ensures c.group_len.ensures) (ends t c.args.group c.group_size.ensures c.group_len.ensures) (follows (runs_goes c.load-word.ensures.2.goes))
    (follows c.in_default.ensures.looks) (follows last) (c.look_between.ensures.full c.in_default.is) (c.look_between-2.ensures.full none)
