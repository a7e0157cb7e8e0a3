use Rattle.check_judge.proofs.{List, Result, Ok, Err, IfOk, map, length-map, members_of, all_completed, Asked, all_asked, AreListsOf, FileEntry, ◌++◌}
use Rattle.check_judge.proofs.{◌∙◌, add_comm, ap, subst, sym, AccessPlace, Vec, all_places, as_many_lists, each_list}
use Rattle.check_judge.proofs.places.places_of.Goals.{In_ok-push_lists}
use Rattle.check_judge.proofs.places.places_of.Goals as goal

both : {X Y : Type 0} (r : Result X Y) (P Q R : X → Type 0) → ((x : X) → P x → Q x → R x) → IfOk r P → IfOk r Q → IfOk r R
both (Ok x) P Q R so p q = so x p q
both (Err e) P Q R so p q = tt

-- the lists that were put are those of the chains
module _ (c : In_ok-push_lists) where
  abbrev catalogue : List FileEntry
  catalogue = c.args.answered.now.setting.catalogue.now

  abbrev runs : List (List Asked)
  runs = map (members_of (all_asked c.args.answered.now.requests.now)) c.args.answered.now.chains.now

  are : AreListsOf catalogue c.args.answered.now.setting.size c.args.answered.now.submission 1 runs c.args.order.now c.push_lists.new.lists.items
      (all_completed c.args.answered.now.completions.now)
  are =
      let put = c.in_ok-push_lists.ensures c.args.order.now c.requires.done in
      subst (λ (l : List (Vec AccessPlace)). AreListsOf catalogue c.args.answered.now.setting.size c.args.answered.now.submission 1 runs c.args.order.now l
      (all_completed c.args.answered.now.completions.now))
      (sym (put.1 ∙ ap (λ (l : List (Vec AccessPlace)). l ++ put.0) c.new-lists.ensures.items)) put.2

pub in_order-requires : goal.in_order-requires
in_order-requires c =
    let p = (goal.at.in_order-requires c).In_ok-push_lists in
    let answered = c.args.answered.now in
    let lists = c.push_lists.new.lists.items in
    let cs = all_completed answered.completions.now in
    let size = answered.setting.size in
    let many = as_many_lists (catalogue p) size answered.submission c.args.order.now 1 (runs p) lists cs (are p) in
    rw c.deref.ensures.value (record {
      chains = rw (many ∙ length-map answered.chains.now (members_of (all_asked answered.requests.now))) c.requires.chains;
      lists = λ k list got. rw (add_comm k 1) (each_list (catalogue p) size answered.submission c.args.order.now 1 (runs p) lists cs (are p) k got);
    })

pub returns : goal.returns
returns c = both c.in_order.result _ _ _
    (λ places chains has. all_places c.args.answered.now.setting.catalogue.now c.args.answered.now.setting.size c.args.answered.now.submission
    c.args.order.now c.push_lists.new.lists.items (are (goal.at.returns c).In_ok-push_lists) chains (rw c.deref.ensures.value at has))
    c.in_order.ensures.chains c.in_order.ensures.lists
