use Rattle.fx_lasting.proofs.{◌∙◌, arith, inl, StillPlaces, group_steps, still_at_work}
use Rattle.fx_lasting.proofs.Peeking.{may_peek}
use Rattle.fx_lasting.proofs.range_lemmas.Trying.{peeked, placing_still, still_then, still_within, allocated_then, allocated_within, found_then}
use Rattle.fx_lasting.proofs.range_lemmas.Scanning.{begins, ends, few_inside, slots_inside, peeked_full, fails_last, follows, whole_group}
use Rattle.fx_lasting.proofs.table.LastingTable.try_group.Goals as goal

pub load-word-requires : goal.load-word-requires
load-word-requires c = may_peek c.args.self.now c.args.seat.now c.requires.table c.requires.at.1 c.requires.group c.group_place.ensures

pub returns-then-counts_all-clause-fails : goal.returns-then-counts_all-clause-fails
returns-then-counts_all-clause-fails c none = λ slot its same.
    inl (peeked_full c.args.self.now c.args.group c.requires.at.1 c.group_place.ensures (c.counts_all.ensures.0 c.if-counts_all.true) c.load-word.ensures.2 slot its same)

pub try_between-requires : goal.try_between-requires
try_between-requires c =
    let goes = c.load-word.ensures.2.goes in
    let still : StillPlaces c.args.node c.args.lost c.args.file 1 c.args.seat.now.me c.load-word.new.seat.me = (peeked c.requires.placing goes, goes.carried) in
    record {
      table = c.load-word.ensures.0 ∙ c.requires.table;
      at = (c.requires.at.0, still_at_work c.requires.at.1 still.0);
      placing = placing_still c.requires.placing still;
      change = still.0.change ∙ c.requires.change;
      order = c.start_within-from.ensures.high;
      range = slots_inside c.args.self.now c.args.group c.group_size.ensures c.group_len.ensures _ _ c.start_within-from.ensures.low (omega arith);
    }

pub try_between-requires-2 : goal.try_between-requires-2
try_between-requires-2 c =
    let goes = c.load-word.ensures.2.goes in
    let before : StillPlaces c.args.node c.args.lost c.args.file 1 c.args.seat.now.me c.load-word.new.seat.me = (peeked c.requires.placing goes, goes.carried) in
    let still = still_then c.args.file before (c.try_between.ensures.none c.in_default.is) in
    record {
      table = c.try_between.ensures.table ∙ (c.load-word.ensures.0 ∙ c.requires.table);
      at = (c.requires.at.0, still_at_work c.requires.at.1 still.0);
      placing = placing_still c.requires.placing still;
      change = still.0.change ∙ c.requires.change;
      order = c.start_within-from.ensures.low;
      range = slots_inside c.args.self.now c.args.group c.group_size.ensures c.group_len.ensures _ _ (omega arith) c.start_within-from.ensures.high;
    }

pub returns-in-Some-clause-found : goal.returns-in-Some-clause-found
returns-in-Some-clause-found c =
    let goes = c.load-word.ensures.2.goes in
    let before : StillPlaces c.args.node c.args.lost c.args.file 1 c.args.seat.now.me c.load-word.new.seat.me = (peeked c.requires.placing goes, goes.carried) in
    allocated_within c.args.seat.now.me c.try_between.new.seat.me c.args.node c.in-Some.found.0 c.in-Some.found.1 c.args.file
    (omega (arith, few_inside c.args.self.now c.args.group c.group_size.ensures c.group_len.ensures, c.start_within-from.ensures.low))
    (allocated_then c.in-Some.found.1 before c.in-Some.ensures.found)

pub returns-clause-found : goal.returns-clause-found
returns-clause-found c =
    let goes = c.load-word.ensures.2.goes in
    let before : StillPlaces c.args.node c.args.lost c.args.file 1 c.args.seat.now.me c.load-word.new.seat.me = (peeked c.requires.placing goes, goes.carried) in
    found_then _ _ (group_steps c.args.self.now.range_len) c.args.file c.try_between-2.result
    (omega (arith, few_inside c.args.self.now c.args.group c.group_size.ensures c.group_len.ensures, c.start_within-from.ensures))
    (still_then c.args.file before (c.try_between.ensures.none c.in_default.is)) c.try_between-2.ensures.found

pub returns-clause-none : goal.returns-clause-none
returns-clause-none c none =
    let goes = c.load-word.ensures.2.goes in
    let before : StillPlaces c.args.node c.args.lost c.args.file 1 c.args.seat.now.me c.load-word.new.seat.me = (peeked c.requires.placing goes, goes.carried) in
    still_within c.args.file (omega (arith, few_inside c.args.self.now c.args.group c.group_size.ensures c.group_len.ensures, c.start_within-from.ensures))
    (still_then c.args.file (still_then c.args.file before (c.try_between.ensures.none c.in_default.is)) (c.try_between-2.ensures.none none))

pub returns-clause-fails : goal.returns-clause-fails
returns-clause-fails c none =
    let t = c.args.self.now in
    let k = t.table.shared.key in
    let goes = c.load-word.ensures.2.goes in
    whole_group (fails_last k) k c.args.group _ c.start_within-from.result _ c.args.seat.now.me c.load-word.new.seat.me c.try_between.new.seat.me c.try_between-2.new.seat.me
    (begins t c.args.group c.group_size.ensures c.group_len.ensures) (ends t c.args.group c.group_size.ensures c.group_len.ensures) (follows (peeked c.requires.placing goes))
    (follows (c.try_between.ensures.none c.in_default.is).0) (follows (c.try_between-2.ensures.none none).0) (c.try_between.ensures.fails c.in_default.is) (c.try_between-2.ensures.fails none)
