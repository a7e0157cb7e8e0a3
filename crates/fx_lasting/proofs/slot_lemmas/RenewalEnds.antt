-- The ends of a replacement by key by one pass: what the pass adds to its view.
use Rattle.fx_lasting.proofs.{◌≡◌, ◌≢◌, ℕ, ◌+◌, ◌<◌, List, [], sym, refl, ap, ◌∙◌, subst, arith, Option, Some, None, Ok, Err, get_elem?, some}
use Rattle.fx_lasting.proofs.{⊎_elim, Idle, File, Look, Release, Put, Action, numbered, ◌▷◌, Start, Sat, Glance, Nothing, Outside}
use Rattle.fx_lasting.proofs.{Runs, Placing, Placement, Closed, Names, as_swapped, entry_in, count_in, pass_in, node_of_number, retiring_work}
use Rattle.fx_lasting.proofs.{held_in, doing_in, hold_at, slots_of, TableId, LastingPass, IsSeatOf, opening_of, view_of, pass_of, PassView, Hold}
use Rattle.fx_lasting.proofs.{Adds, no_use, one_look, one_number, ReleasesFile, LetsFileGo, Retired, LookedByKey, HeldByKey, TriesKey, fault_for}
use Rattle.fx_lasting.proofs.{KeyFault, Miss, MeetsMore, adds_then, DoesNothing, Change, Close, Doing, Holding, LetsChargeGo, Work, acted_further}
use Rattle.fx_lasting.proofs.{does_then, looks_then, file_then, swapped_then, adds_so, adds_run, frees_then, lets_run, LeftAlone, FreesFirst, TakesOn}
use Rattle.fx_lasting.proofs.{TriedRenewal, RenewsAlone, PutsAlone, Key}
use Rattle.fx_table.specs.declared.values.Doing.TheVariants.{Retiring as Retires}
use Rattle.fx_lasting.proofs.slot_lemmas.ByNode.{was_further, removal_so, value_so}
use Rattle.fx_lasting.proofs.node_lemmas.Labelling.{held_besides}
use Rattle.fx_lasting.specs.slots.ByKey.{HoldsAtKey, IsKeyOf}
use Rattle.fx_lasting.specs.declared.answers.Miss.TheVariants as reason
use Rattle.fx_lasting.specs.declared.key_answers.KeyFault.TheVariants as fault
use Rattle.fx_lasting.specs.declared.key_answers.PutOverKey.{PutOverKey}

-- a release after some steps, by the seat alone
releases_so : {k : Start} (m : Sat) → m.0.start ≡ k → (m' : Sat) (f : File) (n : ℕ) (r : Option Closed) → LetsFileGo m f n r m'
    → ReleasesFile (opening_of k) (pass_of m.0) f r (pass_of m'.0)
releases_so m start m' f n None goes = adds_run m start goes no_use
releases_so m start m' f n (Some file) goes = (goes.0, adds_run m start goes.1 no_use)

module _ {id : TableId} {k : Start} {p : LastingPass} (seated : IsSeatOf id k p) (key : Key) (inside : key.slot < slots_of k) {own n : ℕ} {l : Placement} {m₁ : Sat}
    (placed : Runs p.seat.me [] (Placing own l) p.seat.me.0.glance p.seat.me.0.change n m₁) {node : ℕ} (hot : Option ℕ) {m₂ : Sat} (f : File)
    (took : TakesOn k key.slot own l hot f node m₁ m₂) where
  pub holds_run : Runs p.seat.me ([] ▷ Look key.slot (Some f)) took.1 Nothing p.seat.me.0.change (n + 3) m₂
  holds_run = looks_then placed took.4

  doing : doing_in took.1 ≡ Holding f (hold_at f node)
  doing = ⊎_elim (λ is. ap doing_in is) (λ is. ap doing_in is) took.2

  start : m₂.0.start ≡ k
  start = holds_run.start ∙ seated.at.pass.0

  pub at_key : HoldsAtKey k (view_of p) key f (hold_at f node) None (pass_of m₂.0)
  at_key = record {
    looked = (
      f,
      record { entry = refl; same = λ e. absurd (cc e) },
      subst (λ (d : Doing). Adds (opening_of k) (view_of p) ([] ▷ Look key.slot (Some f)) d one_look (pass_of m₂.0)) doing (adds_so seated holds_run one_look),
    );
    holds = ap doing_in holds_run.work ∙ doing;
    node = took.0;
    inside = inside;
  }

  -- it released the file at once, which isn't that of the key
  pub was_other : (IsKeyOf key f → ⊥) → (m₃ : Sat) (r : Option Closed) → LetsFileGo m₂ f 4 r m₃
      → LookedByKey k (view_of p) key (Err fault.Stale) None r (pass_of m₃.0)
  was_other other m₃ r lets = grind (arith, pass_of, at_key, releases_so)

  module _ (its_key : IsKeyOf key f) where
    -- the tries failed, and it released the file
    module _ (p' : LastingPass) (m₃ : Sat) (file : Closed) (miss : Miss) (failed : TriedRenewal k key.slot node own file m₂ (Err miss) m₃) (r : Option Closed)
        (lets : LetsFileGo m₃ f 4 r p'.seat.me) where
      ends : (xs : List Action) × Runs m₃ xs Idle m₃.0.glance m₃.0.change 4 p'.seat.me
      ends = lets_run m₃ p'.seat.me f 4 r lets

      abbrev holder : HeldByKey k (view_of p) key (hold_at f node) None r (view_of p')
      holder = record {
        file = f;
        between = pass_of m₂.0;
        its_key = its_key;
        held = at_key;
        releases = releases_so m₂ start p'.seat.me f 9 r (file_then p'.seat.me f 4 r failed.2 lets);
      }

      tries : (z : Miss) → miss ≡ z → TriesKey k (view_of p) key (fault_for z) None p p'
      tries reason.Again is = let again = subst (λ (z : Miss). TriedRenewal k key.slot node own file m₂ (Err z) m₃) is failed in record {
        file = f;
        hold = hold_at f node;
        between = pass_of m₂.0;
        its_key = its_key;
        held = at_key;
        changed = let a = holds_run.changes key.slot in let b = ends.1.changes key.slot in omega (arith, again.1.0);
        overtaken = grind (arith, again, acted_further, holds_run, ends);
      }
      tries _ is = tt

      pub left : (why : KeyFault) → why ≡ fault_for miss → LeftAlone k p key why None r p'
      left why is = record {
        hold = hold_at f node;
        holder = holder;
        miss = miss;
        same = is;
        was = was_further (view_of p').front failed.0 ends.1.seen;
        tries = subst (λ (z : KeyFault). TriesKey k (view_of p) key z None p p') (sym is) (tries miss refl);
      }

    -- the file was replaced
    module _ (p' : LastingPass) (file : Closed) (word : ℕ) (won : TriedRenewal k key.slot node own file m₂ (Ok word) p'.seat.me) (e : ℕ)
        (stocked : get_elem? (pass_in m₂).stock e ≡ some own) (x : Retired) (on : x.node ≡ node) (entry : x.entry ≡ entry_in word)
        (takes : x.takes ≡ count_in word) where
      same : won.0 ≡ f
      same = cc (sym won.1 ∙ (ap held_in holds_run.work ∙ held_besides took.2))

      pub did : (number : ℕ) × (node_of_number k number ≡ own)
          × Runs (as_swapped e node m₂) ([] ▷ Release f ▷ Put key.slot (numbered number file) (Some f)) (retiring_work k word (Some f)) m₂.0.glance Outside 6 p'.seat.me
      did = grind (arith, same)

      pub names : Names (node_of_number k) word (Some f)
      names = subst (λ (z : File). Names (node_of_number k) word (Some z)) same won.5

      pub swaps : Runs (as_swapped e node p.seat.me) ([] ▷ Look key.slot (Some f) ▷ Release f ▷ Put key.slot (numbered did.0 file) (Some f)) (retiring_work k word (Some f))
          Nothing Outside (n + 3 + 6) p'.seat.me
      swaps = subst (λ (g : Glance). Runs (as_swapped e node p.seat.me) ([] ▷ Look key.slot (Some f) ▷ Release f ▷ Put key.slot (numbered did.0 file) (Some f))
          (retiring_work k word (Some f)) g Outside (n + 3 + 6) p'.seat.me) holds_run.glance (swapped_then e node holds_run did.2)

      pub renews : (r : Option Closed) → r ≡ None → RenewsAlone k p key file x None r p'
      renews r none = record {
        old = f;
        hold = hold_at f node;
        between = pass_of m₂.0;
        its_key = its_key;
        held = at_key;
        new = numbered did.0 file;
        is_new = refl;
        removal = removal_so word x on entry takes won.2 f k names.1;
        adds = subst (λ (y : Retired). Adds (opening_of k) (pass_of m₂.0) ([] ▷ Release f ▷ Put key.slot (numbered did.0 file) (Some f)) (Retires f y) one_number (view_of p'))
            (value_so word x on entry takes won.2 f names.1) (adds_run (as_swapped e node m₂) start did.2 one_number);
        released_none = none;
      }

-- A pass that saw more before, and perhaps freed a file
module _ (k : Start) (u p p' : LastingPass) (key : Key) (freed : Option Closed) (before : FreesFirst (opening_of k) (view_of u) freed (view_of p))
    (few : MeetsMore u p) where
  held_before : (f : File) (hold : Hold) (b : PassView) → HoldsAtKey k (view_of p) key f hold None b → HoldsAtKey k (view_of u) key f hold freed b
  held_before f hold b o = grind (arith, frees_then)

  looked_before : (why : KeyFault) (r : Option Closed) → why ≢ fault.NoSlot → LookedByKey k (view_of p) key (Err why) None r (view_of p')
      → LookedByKey k (view_of u) key (Err why) freed r (view_of p')
  looked_before why r other o = grind (arith, frees_then, held_before)

  tries_before : (why : KeyFault) → TriesKey k (view_of p) key why None p p' → TriesKey k (view_of u) key why freed u p'
  tries_before fault.Again o = record {
    file = o.file;
    hold = o.hold;
    between = o.between;
    its_key = o.its_key;
    held = held_before o.file o.hold o.between o.held;
    changed = let a = few.1 key.slot in omega (arith, o.changed);
    overtaken = grind arith;
  }
  tries_before _ o = tt

  left_before : (why : KeyFault) (r : Option Closed) → LeftAlone k p key why None r p' → LeftAlone k u key why freed r p'
  left_before why r o = let h = o.holder in record {
    hold = o.hold;
    holder = record { file = h.file; between = h.between; its_key = h.its_key; held = held_before h.file o.hold h.between h.held; releases = h.releases };
    miss = o.miss;
    same = o.same;
    was = o.was;
    tries = tries_before why o.tries;
  }

  pub puts_before : (inside : key.slot < slots_of k) (file : Closed) (put : PutOverKey) (r : Option Closed) → PutsAlone k p key file put None r p'
      → PutsAlone k u key file put freed r p'
  puts_before inside file put r o = grind (arith, held_before, left_before, looked_before)

-- a pass that did nothing but see more, and then perhaps freed a file
pub frees_later : (k : Start) (u v w : PassView) (freed : Option Closed) → Adds (opening_of k) u [] DoesNothing no_use v → FreesFirst (opening_of k) v freed w
    → FreesFirst (opening_of k) u freed w
frees_later k u v w None first frees = adds_then (opening_of k) u v w [] [] DoesNothing DoesNothing no_use no_use first frees
frees_later k u v w (Some file) first frees =
    (frees.0, frees.1, adds_then (opening_of k) u v w [] ([] ▷ Close frees.0) DoesNothing DoesNothing no_use no_use first frees.2)

-- an announcement in vain
pub frees_so : {id : TableId} {k : Start} {p : LastingPass} → IsSeatOf id k p → {m : Sat} {w : Work} {g : Glance} {c : Change} {n : ℕ}
    → Runs p.seat.me [] w g c n m → (m' : Sat) (freed : Option Closed) → LetsChargeGo m 3 freed m' → FreesFirst (opening_of k) (view_of p) freed (pass_of m'.0)
frees_so seated before m' None lets = adds_so seated (does_then before lets) no_use
frees_so seated before m' (Some file) lets = (lets.0, lets.1, adds_so seated (does_then before lets.2) no_use)
