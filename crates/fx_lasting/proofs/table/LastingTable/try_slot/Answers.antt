use Rattle.fx_lasting.proofs.{◌≡◌, ◌≢◌, ◌+◌, ◌<◌, ◌^◌, ap, ◌∙◌, sym, arith, rules, None, file_node_in, name_in, ℕ, ◌-◌, subst, slot_of, refl, Inside}
use Rattle.fx_lasting.proofs.{group_of, range_at_start, inl, inr, [], IsWatching, slot_inside, slot_back, still_at_work, no_name, in_range_so}
use Rattle.fx_lasting.proofs.slot_lemmas.Seeing.{may_see}
use Rattle.fx_lasting.proofs.slot_lemmas.EmptySlots.{full_so}
use Rattle.fx_lasting.proofs.slot_lemmas.Overtaking.{overtaken_in, overtaken_now}
use Rattle.fx_lasting.proofs.slot_lemmas.SlotLaws.{exchanges_keep}
use Rattle.fx_lasting.proofs.range_lemmas.Trying.{in_size, peeked, lost_still, won_run, won_named, won_at_work, won_so}
use Rattle.fx_lasting.proofs.table.LastingTable.try_slot.Goals as goal

pub load-old-requires : goal.load-old-requires
load-old-requires c =
    let t = c.args.self.now in
    may_see t c.args.seat.now c.requires.table c.requires.at.1 (in_size t c.args.slot c.requires.range) c.slot_place-place.ensures

pub compare_exchange-found-requires : goal.compare_exchange-found-requires
compare_exchange-found-requires c =
    let place = c.slot_place-place.ensures in
    let goes = c.load-old.ensures.2.goes in
    let run = peeked c.requires.placing goes in
    let at = still_at_work c.requires.at.1 run in
    let small : c.args.file.entry < 2 ^ 8 = omega arith in
    let empty : file_node_in c.load-old.result ≡ None = search rules in (
      c.load-old.ensures.0 ∙ c.requires.table,
      slot_inside c.args.self.now (in_size c.args.self.now c.args.slot c.requires.range) place,
      exchanges_keep _ _ _ _ c.args.slot c.args.node c.args.lost _ _ c.args.file c.load-old.new.seat.me _ at.pass run.work
          (goes.carried ∙ c.requires.placing.place) small (run.change ∙ c.requires.change) c.requires.range place
          (no_name c.load-old.result (sym empty)) (ap (λ (z : ℕ). z + c.args.lost) c.file_word.ensures),
    )

pub returns-then-found-old-clause-tries : goal.returns-then-found-old-clause-tries
returns-then-found-old-clause-tries c =
    let lost : c.compare_exchange-found.result ≢ c.load-old.result = c.if-found-old.true in
    lost_still c.requires.placing c.requires.change c.load-old.ensures.2.goes c.compare_exchange-found.ensures.2 lost

pub returns-then-is_full-clause-fails : goal.returns-then-is_full-clause-fails
returns-then-is_full-clause-fails c = λ _. inl (full_so c.requires.at.1.pass.0 (ap slot_of c.slot_place-place.ensures ∙ slot_back c.args.slot) c.load-old.ensures.2
    (c.is_full.ensures.full c.if-is_full.true c.load-old.ensures.2.named.0))

pub returns-then-found-old-clause-fails : goal.returns-then-found-old-clause-fails
returns-then-found-old-clause-fails c = λ _.
    let lost : c.compare_exchange-found.result ≢ c.load-old.result = c.if-found-old.true in
    let here = ap slot_of c.slot_place-place.ensures ∙ slot_back c.args.slot in
    let saw = c.load-old.ensures.2 in
    let first = saw.goes.stepped in
    inr (overtaken_in c.args.slot c.args.seat.now.me c.load-old.new.seat.me c.compare_exchange-found.new.seat.me c.compare_exchange-found.new.seat.me first.number first.start first.seen first.met (first.changes c.args.slot) ([], refl) (omega arith) (omega arith)
    (overtaken_now (c.compare_exchange-found.ensures.2.loses lost) here lost (subst (λ (s : ℕ). IsWatching s c.load-old.result c.load-old.new.seat.me) here saw.watches)))

pub node_named-named-requires : goal.node_named-named-requires
node_named-named-requires c =
    let won : c.compare_exchange-found.result ≡ c.load-old.result = omega (arith, c.if-found-old.false) in
    subst (λ (z : ℕ). name_in z ≢ 0) won
    (won_named c.requires.placing c.requires.change c.load-old.ensures.2.goes c.compare_exchange-found.ensures.2 won refl).0

pub raise-requires : goal.raise-requires
raise-requires c =
    let tries = c.compare_exchange-found.ensures.2 in
    let goes = c.load-old.ensures.2.goes in
    let won : c.compare_exchange-found.result ≡ c.load-old.result = omega (arith, c.if-found-old.false) in
    let run = won_run c.requires.placing c.requires.change goes tries won (ap slot_of c.slot_place-place.ensures ∙ slot_back c.args.slot)
    c.requires.placing.stocked.0 c.requires.placing.stocked.1 in
    record {
      table = c.compare_exchange-found.ensures.0 ∙ (c.load-old.ensures.0 ∙ c.requires.table);
      at = (c.requires.at.0, won_at_work c.requires.placing c.requires.change goes tries won refl c.requires.at.1);
      inside = sym (in_range_so (range_at_start c.args.self.now.table.shared.key) c.args.slot c.requires.range.0 c.requires.range.1);
      change = run.2.change ∙ λ i. Inside (group_of (range_at_start (c.requires.at.1.pass.0 i)) c.args.slot);
    }

pub returns-clause-tries : goal.returns-clause-tries
returns-clause-tries c =
    let won : c.compare_exchange-found.result ≡ c.load-old.result = omega (arith, c.if-found-old.false) in
    won_so c.requires.placing c.requires.change c.load-old.ensures.2.goes c.compare_exchange-found.ensures.2 won
    (ap slot_of c.slot_place-place.ensures ∙ slot_back c.args.slot) c.node_named-named.result
    (c.node_named-named.ensures ∙ ap (λ (z : ℕ). name_in z - 1) (sym won)) c.raise.ensures.runs c.raise.ensures.places
