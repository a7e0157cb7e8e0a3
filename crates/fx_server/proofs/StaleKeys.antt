-- A call by key that says `Stale`: the slot had another file at a moment of the call.
use Rattle.fx_server.proofs.{arith, ℤ, None, Ok, Err, Identity, ◌▷◌, AllowsAll, IsSeenBy, action_of, part_of_pass, state_after, State, Allows, Action}
use Rattle.fx_server.proofs.{Close, Look, Event, File, Adds, LookedUp, ReleasesFile, Use, one_look, Opening, IsFront, PassView, Doing, event_of}
use Rattle.fx_server.proofs.{Holding, Hold, HeldByKey, LookedByKey, fault_for, state_at_start, opening_of, Key, KeyFault, Stale, Start, IN_USE}
use Rattle.fx_server.proofs.{TakesAlone, dropped_or, fault_code, STALE, IsGood, IsRefused, its_pass, its_start, TableWorker, ◌≡◌, inl, inr, ℕ, ◌++◌}
use Rattle.fx_server.proofs.{List, [], ◌∷◌, map, refl, sym, ap, subst, ◌∙◌, append_assoc, dite, ℕ_discrete, eq-eqb, Some, ne_eqb, Option}
use Rattle.fx_table.proofs.Calls.{follows_shown, seen_further}
use Rattle.fx_lasting.specs.slots.ByNode.{FitsMiss, IsOn, WasSo}
use Rattle.fx_lasting.specs.declared.answers.Miss.{Miss}
use Rattle.fx_server.specs.StaleKeys.{HadAnother, IsAnother, StaleKeysHadAnother}
use Rattle.fx_lasting.specs.declared.answers.Miss.TheVariants as miss

-- a history, split at its last event of a pass
record SplitAt (since : List Event) (e : Event) : Type 0 where
  earlier : List Event
  later : List Event
  is : since ≡ later ++ (e ∷ earlier)

split : (p : ℕ) (since : List Event) (e : Event) (es : List Event) → part_of_pass p since ≡ e ∷ es → SplitAt since e
split p [] e es is = absurd (cc is)
split p (x ∷ xs) e es is = dite (ℕ_discrete x.pass p)
    (λ same. let first : x ∷ part_of_pass p xs ≡ e ∷ es = rw (eq-eqb x.pass p same) at is in record { earlier = xs; later = []; is = cc first })
    (λ other. let more = split p xs e es (rw (ne_eqb x.pass p other) at is) in
    record { earlier = more.earlier; later = x ∷ more.later; is = ap (λ (l : List Event). x ∷ l) more.is })

-- an event of a legal history was allowed
allowed_at : (start : State) (h later : List Event) (e : Event) → AllowsAll start (map action_of (later ++ (e ∷ h))) → Allows (state_after start (map action_of h)) e.action
allowed_at start h [] e may = may.1
allowed_at start h (x ∷ later) e may = allowed_at start h later e may.0

module _ (k : Start) (slot : ℕ) (f : File) where
  -- a look-up that found the file: the slot had it
  look_was : (v w : PassView) (earlier : List Action) (doing : Doing) (used : Use) → IsFront (opening_of k) v → Adds (opening_of k) v (earlier ▷ Look slot (Some f)) doing used w
      → WasSo k slot (λ there. there ≡ Some f) v.front w.front
  look_was v w earlier doing used front adds =
      let made = follows_shown (opening_of k) v.front v w (earlier ▷ Look slot (Some f)) doing used front ([], refl) adds in
      let at = split v.number made.since (event_of v (Look slot (Some f))) (map (event_of v) earlier) made.part in
      let h = at.earlier ++ v.front in
      let look = event_of v (Look slot (Some f)) in
      let whole : w.front ≡ at.later ++ (look ∷ h) = made.front ∙ (ap (λ (l : List Event). l ++ v.front) at.is ∙ append_assoc at.later (look ∷ at.earlier) v.front) in
      let may = allowed_at (state_at_start k) h at.later look (subst (λ (l : List Event). AllowsAll (state_at_start k) (map action_of l)) whole w_legal) in record {
        history = h;
        later = (at.earlier, refl);
        seen = (at.later ++ (look ∷ []), whole ∙ sym (append_assoc at.later (look ∷ []) h));
        there = sym may.1;
      }
    where
      w_legal : AllowsAll (state_at_start k) (map action_of w.front)
      w_legal = adds.front.legal.leads.0

  looked_was : (v w : PassView) (hold : Hold) (freed : Option Identity) → IsFront (opening_of k) v → LookedUp (opening_of k) v slot (Ok hold) freed w → w.doing ≡ Holding f hold
      → WasSo k slot (λ there. there ≡ Some f) v.front w.front
  looked_was v w hold None front (g, is, adds) holds =
      let same : g ≡ f = cc (sym adds.now ∙ holds) in look_was v w [] (Holding g hold) one_look front (subst (λ (z : File). Adds (opening_of k) v ([] ▷ Look slot (Some z)) (Holding g hold) one_look w) same adds)
  looked_was v w hold (Some file) front (c, out, (g, is, adds)) holds =
      let same : g ≡ f = cc (sym adds.now ∙ holds) in look_was v w ([] ▷ Close c) (Holding g hold) one_look front (subst (λ (z : File). Adds (opening_of k) v ([] ▷ Close c ▷ Look slot (Some z)) (Holding g hold) one_look w) same adds)

looked_on : (o : Opening) (v w : PassView) (slot : ℕ) (hold : Hold) (freed : Option Identity) → LookedUp o v slot (Ok hold) freed w → IsSeenBy v.front w.front
looked_on o v w slot hold freed it = grind arith

released_on : (o : Opening) (v : PassView) (f : File) (out : Option Identity) (w : PassView) → ReleasesFile o v f out w → IsSeenBy v.front w.front
released_on o v f out w it = grind arith

module _ (k : Start) (key : Key) where
  -- that the slot had another file
  abbrev Had : List Event → List Event → Type 0
  Had before after = WasSo k key.slot (IsAnother key) before after

  had_until : (a b c : List Event) → Had a b → IsSeenBy b c → Had a c
  had_until a b c was more = record { history = was.history; later = was.later; seen = seen_further was.history b c was.seen more; there = was.there }

  -- the file that a look-up found, and that the key doesn't name
  had_other : (v w : PassView) (freed released : Option Identity) → IsFront (opening_of k) v → LookedByKey k v key (Err Stale) freed released w → Had v.front w.front
  had_other v w freed released front it =
      let was = looked_was k key.slot it.file v it.between it.hold freed front it.held.looked it.held.holds in
      had_until v.front it.between.front w.front
      (record { history = was.history; later = was.later; seen = was.seen; there = (it.file, was.there, λ named. absurd (it.other named)) })
      (released_on (opening_of k) it.between it.file released w it.releases)

  -- a file on another node than that of the key's file, after that was found
  had_after : (vh wh w : PassView) (hold : Hold) (freed released : Option Identity) (held : HeldByKey k vh key hold freed released wh)
      → WasSo k key.slot (FitsMiss k hold.node miss.Stale) held.between.front w.front → Had vh.front w.front
  had_after vh wh w hold freed released held was = record {
    history = was.history;
    later = seen_further vh.front held.between.front was.history (looked_on (opening_of k) vh held.between key.slot hold freed held.held.looked) was.later;
    seen = was.seen;
    there = (was.there.0, was.there.1, λ named. (held.file, held.its_key, λ same. was.there.2 (subst (λ (f : File). IsOn k hold.node f) same held.held.node)));
  }

  left_other : (v between w : PassView) (node : ℕ) (m : Miss) → Stale ≡ fault_for m → WasSo k key.slot (FitsMiss k node m) between.front w.front
      → WasSo k key.slot (FitsMiss k node miss.Stale) between.front w.front
  left_other v between w node m is was = grind arith

module _ (w w' : TableWorker) (key : Key) (good : IsGood w) where
  -- a pass of the worker found the other file
  by_pass : (out back : Option Identity) → LookedByKey (its_start w) (its_pass w) key (Err Stale) out back (its_pass w') → HadAnother w key w'
  by_pass out back looked = record { was = had_other (its_start w) key (its_pass w) (its_pass w') out back good.fits.front looked }

  -- the pass alone left the slot as it was
  by_alone : (out back : Option Identity) → TakesAlone (its_start w) w.pass key (Err Stale) out back w'.pass → HadAnother w key w'
  by_alone out back (inl looked) = by_pass out back looked
  by_alone out back (inr left) = record {
    was = had_after (its_start w) key (its_pass w) (its_pass w') (its_pass w') left.hold out back left.holder
        (left_other (its_start w) key (its_pass w) left.holder.between (its_pass w') left.hold.node left.miss left.same left.was);
  }

other_of : (why : KeyFault) (answer : ℤ) → answer ≡ fault_code why → answer ≡ STALE → why ≡ Stale
other_of why answer is stale = grind arith

-- a call that is done or that the worker refused says another reason
not_stale : (answer : ℤ) (file : Option Identity) → answer ≡ dropped_or IN_USE file → answer ≡ STALE → ⊥
not_stale answer file is stale = grind arith

not_refused : (w : TableWorker) (answer : ℤ) → IsRefused w answer → answer ≡ STALE → ⊥
not_refused w answer h3 stale = grind arith

pub stale_keys : StaleKeysHadAnother
stale_keys = record {
  gets = λ w w' key answer out done is. elim done.found [
    | inl found ↦ absurd (cc (sym found.1 ∙ is))
    | inr (inl none) ↦ by_pass w w' key done.good none.looks.freed none.looks.released
        (subst (λ (why : KeyFault). LookedByKey (its_start w) (its_pass w) key (Err why) none.looks.freed none.looks.released (its_pass w')) (other_of none.why answer none.its_answer is) none.looks.looked)
    | inr (inr busy) ↦ absurd (cc (sym busy.2.0 ∙ is))
  ];
  removes = λ w w' key answer out done is. elim done.removed [
    | inl it ↦ absurd (not_stale answer it.retires.file it.retires.its_answer is)
    | inr (inl left) ↦ by_alone w w' key done.good left.takes.freed left.takes.released
        (subst (λ (why : KeyFault). TakesAlone (its_start w) w.pass key (Err why) left.takes.freed left.takes.released w'.pass) (other_of left.why answer left.its_answer is) left.takes.takes)
    | inr (inr refused) ↦ absurd (not_refused w answer refused.2 is)
  ];
  replaces = λ w w' key tag answer out done is. elim done.placed [
    | inl it ↦ absurd (not_stale answer it.retires.file it.retires.its_answer is)
    | inr (inl kept) ↦ by_alone w w' key done.good kept.puts.freed kept.puts.released
        (subst (λ (why : KeyFault). TakesAlone (its_start w) w.pass key (Err why) kept.puts.freed kept.puts.released w'.pass) (other_of kept.why answer kept.its_answer is) kept.puts.puts.1)
    | inr (inr refused) ↦ absurd (not_refused w answer refused.2 is)
  ];
}
