use Rattle.fx_table.proofs.Words.{◌≡◌, ◌<◌, ◌+◌, ℕ, length, List, [], ◌∷◌, ◌++◌, ap, ◌∙◌, arith, state_of, length-append, get_or_append_left, Option}
use Rattle.fx_table.proofs.Words.{get_or_push, Closed, file_in_place}
use Rattle.fx_table.proofs.Shells.{file_put, last_back}
use Rattle.fx_table.proofs.shell.put_all.Goals as goal

-- the content of the last place
module _ (all xs ys : List (Option Closed)) (x : Option Closed) (split : xs ≡ ys ++ x ∷ [])
    (same : (k : ℕ) → k < length xs → file_in_place xs k ≡ file_in_place all k) where
  one_less : length xs ≡ length ys + 1
  one_less = ap length split ∙ length-append ys (x ∷ [])

  last_is : file_in_place all (length ys) ≡ x
  last_is = grind (arith, one_less, get_or_push)

  same_before : (k : ℕ) → k < length ys → file_in_place ys k ≡ file_in_place all k
  same_before k l = grind (arith, get_or_append_left, one_less)

pub loop-file-preserved-in-Some-file : goal.loop-file-preserved-in-Some-file
loop-file-preserved-in-Some-file c =
    let all = c.args.homes.items in let xs = c.loop-file.homes.items in let now = c.pop.new.self.items in
    let split = c.in-Some.ensures.items in let i = c.loop-file.invariant in
    let slot_is : c.len-slot.result ≡ length now = omega (arith, c.len-slot.ensures, c.pop.new.self.ok.0) in
    let file_is = last_is all xs now c.in-Some.file split i.items ∙ c.in-Some-file.is in record {
      part = last_back (state_of c.args.plain.now) (file_in_place all) (rw (file_is, ← slot_is) (file_put i.part.settled c.put_back.ensures.state))
          (rw (one_less all xs now c.in-Some.file split i.items) at i.part);
      prepared = c.put_back.ensures.prepared;
      items = same_before all xs now c.in-Some.file split i.items;
    }
