-- A removal by a pass that holds the file: what its steps leave.
use Rattle.fx_lasting.proofs.{◌≡◌, ℕ, ◌<◌, List, [], sym, ap, ◌∙◌, subst, arith, Option, Some, None, set, get_elem?, some, false, File, Release}
use Rattle.fx_lasting.proofs.{Take, Close, ◌▷◌, Start, Sat, Work, Glance, Outside, Runs, Names, IsStockOf, as_stocked, as_swapped, pass_in}
use Rattle.fx_lasting.proofs.{node_of_number, range_at_start, IsAtWork, Ok, Closed, Adds, adds_then, no_use, DoesNothing, ReleasesFile, Released}
use Rattle.fx_lasting.proofs.{LookedUp, Opening, PassView, Holding, Hold, TableId, LastingPass, IsPassOf, IsBetweenCalls, opening_of, view_of}
use Rattle.fx_lasting.proofs.{pass_of, Change, Doing, HasTriedIf, Miss, KeyFault, TriesKey, fault_for, MeetsMore, LookedByKey, HeldByKey}
use Rattle.fx_lasting.proofs.{WasSo, FitsMiss, IsSeenBy, IsOffCount, slots_of, refl, Err, Result, empty_word_of, slot_of, Bool}
use Rattle.fx_lasting.proofs.{HasItsHold, HoldsAlone, is_guarding, leaving_work, adds_so, runs_within, swapped_then, number_is, own_stock, stock_is}
use Rattle.fx_lasting.proofs.{still_at_work, acted_further, TriedOutHeld, LeftAlone, Kind, SwapsHeld, TakesHeld, Key}
use Rattle.fx_lasting.proofs.slot_lemmas.ByNode.{acts_then, at_once, begun_at, its_own, names_inside, with_stock, stock_moved, was_further}
use Rattle.fx_lasting.specs.Ends.{Does}
use Rattle.fx_lasting.specs.nodes.Stocks.{IsInStock}
use Rattle.fx_lasting.specs.slots.ByNode.{MayExchange, TriedExchange, WonExchange}
use Rattle.fx_lasting.proofs.slot_lemmas.SwapsHeld.{swaps_held_keep, takes_held_keep}
use Rattle.fx_lasting.specs.declared.answers.Miss.TheVariants as reason

-- The exchanges that a pass tried, to empty the slot of the file that it holds
module _ {k : Start} {p : ℕ} {m : Sat} (at : IsAtWork k p m) (stock : List ℕ) (its : stock ≡ (pass_in m).stock) (slot node : ℕ) (f : File)
    (works : HoldsAlone m.0.work f node) where
  holds_still : (b : Sat) → Does m [] m.0.work 3 b → HoldsAlone b.0.work f node
  holds_still b still = subst (λ (w : Work). HoldsAlone w f node) (sym still.work) works

  module _ {kind : Kind} {new : Option ℕ} {word : ℕ} {m' : Sat} (w : WonExchange kind slot node new m word m')
      (own_hold : HasItsHold (is_guarding w.before.0.work) word) (names : Names (node_of_number w.before.0.start) word (Some f)) where
    abbrev Acts : Sat → ℕ → Start → ℕ → Glance → Bool → Type 0
    Acts s n z i g b = Runs s ([] ▷ Release f ▷ Take i (Some f)) (leaving_work z b word f) g Outside n m'

    out_so : (l : List ℕ) → IsStockOf k (pass_in m).number l → Acts (as_stocked l m) 4 k slot m.0.glance (is_guarding m.0.work)
        → TriedOutHeld k slot node l m (Ok word) m'
    out_so l has run = grind (arith, begun_at)

  -- it left the name
  pub left_held : (r : Result ℕ Miss) (m' : Sat) → TriedExchange TakesHeld k slot node None m r m' → TriedOutHeld k slot node stock m r m' × (m'.1 ≡ m.1)
  left_held (Err miss) m' it = ((it.0, it.1, its), it.2)
  left_held (Ok word) m' w =
      let start = begun_at at w.still in
      let z = w.last.wins f node (holds_still w.before w.still) w.first in
      let run = runs_within (omega arith) (acts_then w.still (subst (λ (y : Start × ℕ × Bool). Acts w z.0 z.1 w.before 1 y.0 y.1 w.before.0.glance y.2)
      (λ i. (start i, w.here i, is_guarding (w.still.work i))) (at_once (range_at_start w.before.0.start) (slot_of w.st.word) f z.2))) in (
        out_so w z.0 z.1 stock (subst (λ (y : ℕ × List ℕ). IsStockOf k y.0 y.1) (λ i. (sym (number_is at) i, sym its i)) (own_stock at)) (with_stock its run),
        z.3 ∙ w.places,
      )

  -- it exchanged names
  pub moved_held : (own new entry word : ℕ) (m' : Sat) → get_elem? stock entry ≡ some own → new ≡ empty_word_of own
      → TriedExchange SwapsHeld k slot node (Some new) m (Ok word) m' → TriedOutHeld k slot node (set stock entry node) m (Ok word) m' × (m'.1 ≡ m.1)
  moved_held own new entry word m' there is w =
      let start = begun_at at w.still in
      let z = w.last.wins f node own entry (holds_still w.before w.still) (ap (λ (l : List ℕ). get_elem? l entry) (w.still.stock ∙ sym its) ∙ there)
      (w.second ∙ is) w.first in
      let same : set (pass_in m).stock entry node ≡ set stock entry node = λ i. set (sym its i) entry node in
      let run = runs_within (omega arith) (swapped_then entry node w.still (subst (λ (y : Start × ℕ × Glance × ℕ × Bool). Acts w z.0 z.1 (as_swapped entry y.3 w.before) 1
      y.0 y.1 y.2 y.4) (λ i. (start i, w.here i, w.still.glance i, its_own word node w.named i, is_guarding (w.still.work i)))
      (at_once (range_at_start w.before.0.start) (slot_of w.st.word) f z.3))) in (
        out_so w z.0 z.1 (set stock entry node) (stock_moved at entry node (names_inside word node w.before start w.named z.2) same)
            (subst (λ (l : List ℕ). Acts w z.0 z.1 (as_stocked l m) 4 k slot m.0.glance (is_guarding m.0.work)) same run),
        z.4 ∙ w.places,
      )

  -- it may do either
  pub may_leave_held : slot < slots_of k → IsOffCount k slot m.0.change → MayExchange TakesHeld k slot node None m
  may_leave_held inside off slots id old tries m' still places named = takes_held_keep _ slots id _ slot old _ node f m' _ (still_at_work at still).pass
      (subst (λ (w : Work). HoldsAlone w f node) (sym still.work) works) named inside (still.change ∙ off) refl refl

  pub may_move_held : slot < slots_of k → IsOffCount k slot m.0.change → (own : ℕ) → IsInStock (pass_in m).stock own → MayExchange SwapsHeld k slot node (Some (empty_word_of own)) m
  may_move_held inside off own has slots id old tries m' still places named = let now = still_at_work at still in
      swaps_held_keep _ slots id _ slot own old _ node f m' _ now.pass (subst (λ (w : Work). HoldsAlone w f node) (sym still.work) works) named inside
      (still.change ∙ off) (has.0, ap (λ (l : List ℕ). get_elem? l has.0) (sym (stock_is now) ∙ still.stock) ∙ has.1) refl refl

-- a pass that holds a file, and has done nothing more
pub adds_held : {id : TableId} {k : Start} {p : LastingPass} {f : File} {hold : Hold} → IsPassOf id k p → (view_of p).doing ≡ Holding f hold → {m' : Sat}
    {g : Glance} {c : Change} {n : ℕ} → Runs p.seat.me [] p.seat.me.0.work g c n m' → Adds (opening_of k) (view_of p) [] (Holding f hold) no_use (pass_of m'.0)
adds_held {k = k} {p = p} fits holds {m'} r =
    subst (λ (d : Doing). Adds (opening_of k) (view_of p) [] d no_use (pass_of m'.0)) holds (adds_so fits.seated r no_use)

-- its fields say that it isn't idle and keeps no node, and how it holds the file
pub held_flags : (passes : ℕ) (p : LastingPass) {f : File} {n : ℕ} {w : Work} → HoldsAlone w f n
    → IsBetweenCalls passes p.idle p.guarded p.keeps p.next_visit p.stock.items p.next_entry w
    → (p.idle ≡ false) × (p.keeps ≡ false) × (is_guarding w ≡ p.guarded)
held_flags passes p works knows = grind arith

-- a pass that released the file that it held after some steps
pub released_then : (o : Opening) (v b w : PassView) (f g : File) (hold : Hold) (file : Option Closed) → g ≡ f → Adds o v [] (Holding g hold) no_use b
    → ReleasesFile o b g file w → ReleasesFile o v f file w
released_then o v b w f g hold file same before r = subst (λ (z : File). ReleasesFile o v z file w) same (go file r)
  where
    go : (file : Option Closed) → ReleasesFile o b g file w → ReleasesFile o v g file w
    go None r = adds_then o v b w [] ([] ▷ Release g) (Holding g hold) DoesNothing no_use no_use before r
    go (Some file) r = (r.0, adds_then o v b w [] ([] ▷ Release g ▷ Close g) (Holding g hold) DoesNothing no_use no_use before r.1)

-- the number of a pass that looked a slot up
looked_number : (o : Opening) (v w : PassView) (slot : ℕ) (hold : Hold) (freed : Option Closed) → LookedUp o v slot (Ok hold) freed w → w.number ≡ v.number
looked_number o v w slot hold freed h7 = grind arith

released_seen : (o : Opening) (v w : PassView) (f : File) (file : Option Closed) → ReleasesFile o v f file w → IsSeenBy v.front w.front
released_seen o v w f file r = grind arith

-- The pass found the file of the key, held it during a try that left the slot as it was, and
-- released it
module _ (k : Start) (p b c p' : LastingPass) (key : Key) (hold : Hold) (freed other released : Option Closed)
    (looked : LookedByKey k (view_of p) key (Ok hold) freed other (view_of b)) (f : File) (holds : (view_of b).doing ≡ Holding f hold) (miss : Miss)
    (was : WasSo k key.slot (FitsMiss k hold.node miss) (view_of b).front (view_of c).front)
    (adds : Adds (opening_of k) (view_of b) [] (Holding f hold) no_use (view_of c)) (tried : HasTriedIf k key.slot miss b c)
    (releases : Released (opening_of k) (view_of c) hold released (view_of p')) (few : MeetsMore p b) (more : MeetsMore c p') where
  same_held : f ≡ looked.0
  same_held = cc (sym holds ∙ looked.2.holds)

  same_released : releases.0 ≡ f
  same_released = cc (sym releases.1 ∙ adds.now)

  abbrev holder : HeldByKey k (view_of p) key hold freed released (view_of p')
  holder = record {
    file = looked.0;
    between = view_of b;
    its_key = looked.1;
    held = looked.2;
    releases = released_then (opening_of k) (view_of b) (view_of c) (view_of p') looked.0 f hold released same_held adds
        (subst (λ (z : File). ReleasesFile (opening_of k) (view_of c) z released (view_of p')) same_released releases.2);
  }

  later : IsSeenBy (view_of c).front (view_of p').front
  later = released_seen (opening_of k) (view_of c) (view_of p') releases.0 released releases.2

  why : (m : Miss) → HasTriedIf k key.slot m b c → TriesKey k (view_of p) key (fault_for m) freed p p'
  why reason.Again it = record {
    file = looked.0;
    hold = hold;
    between = view_of b;
    its_key = looked.1;
    held = looked.2;
    changed = let a = few.1 key.slot in let b = more.1 key.slot in omega (arith, it.0);
    overtaken = grind (arith, b, acted_further, looked_number, later);
  }
  why _ it = tt

  pub left_alone : (fault : KeyFault) → fault ≡ fault_for miss → LeftAlone k p key fault freed released p'
  left_alone fault is = record {
    hold = hold;
    holder = holder;
    miss = miss;
    same = is;
    was = was_further (view_of p').front was later;
    tries = subst (λ (z : KeyFault). TriesKey k (view_of p) key z freed p p') (sym is) (why miss tried);
  }
