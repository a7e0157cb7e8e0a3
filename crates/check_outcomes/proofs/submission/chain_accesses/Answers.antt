use Rattle.check_outcomes.proofs.{◌≡◌, ℕ, List, [], ◌∷◌, IfOk-weaker, Some, slice_get, sym, Access, FileEntry, Place, Request, Table, all_asked}
use Rattle.check_outcomes.proofs.{operation_of, rest_for, table_of_slots, HasEach, HasEachNext, moved}
use Rattle.check_outcomes.proofs.submission.chain_accesses.Goals as goal

each_next : (catalogue : List FileEntry) (table : Table) (place : Place) (requests : List Request) (request : Request) (made : ℕ)
    (choices : List Access) → Some request ≡ slice_get requests 0 → HasEach catalogue table place (operation_of request.op) made choices
    → HasEachNext catalogue table (rest_for place (all_asked requests) made) choices
each_next catalogue table place [] request made choices is has = absurd (cc)
each_next catalogue table place (r ∷ requests) request made choices is has = let same : request ≡ r = cc in rw same at has

pub returns : goal.returns
returns c =
    let progress = c.args.progress in
    IfOk-weaker c.next_accesses.result _ _ (λ choices has. rw (sym c.left.ensures.left)
    (each_next c.args.setting.now.catalogue.now (table_of_slots c.args.slots.now) (moved c.args.place progress.done) c.left.result.now
    c.in-Some.request.now progress.made choices.items c.in-Some.ensures.value (rw c.moved-here.ensures at has))) c.next_accesses.ensures
