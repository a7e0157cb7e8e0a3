-- Each rule of certificates adds an order that every flight keeps.
use Rattle.check_certificate.proofs.Words.{common_steps, ◌≡◌, ℕ, ◌<◌, ◌≤◌, List, [], ◌∷◌, ◌++◌, length, take, refl, sym, ap, ◌∙◌, arith, Some, None}
use Rattle.check_certificate.proofs.Words.{Option, ⊎_elim, Contains, contains_head, cases_lt, slice_get, Moment, Logged, Accesses, Access, true}
use Rattle.check_certificate.proofs.Words.{IsLeftAt, false, Identity, IsOlderPart, Table, table_with, table_left_by, Happening, WasLogged, Permits}
use Rattle.check_certificate.proofs.Words.{LookAnswered, Freed, FileClosed, AllSettled, Looks, zero, suc, contains_tail, subst, IsForced, IsOfCall}
use Rattle.check_certificate.proofs.Words.{IsInOrder, TimedFlight, log_of_beginning, IsEventAt, At, IsAccessMade, IsEvident, left_at, slot_count}
use Rattle.check_certificate.proofs.Words.{LogBeginning, Point, Event, Gone, Put, PointOrder, Evidence, Finds, Installs, Never, logged, in_log}
use Rattle.check_certificate.proofs.Words.{size_stays, IsCallOf, Asked, all_asked, asked_of, Request, all_happenings, happening_of, LogEvent}
use Rattle.check_certificate.proofs.Words.{at_itself, front_is, length-map, slice_get-get_or, slice_get-map, slice_get_past, slice_get_read, list_any}
use Rattle.check_certificate.proofs.Words.{map, IfSome, option_map, slice_index_or, Bool}
use Rattle.check_certificate.proofs.Leaving.{same_moment, taken_gone, there_after, there_or_taken}
use Rattle.check_certificate.proofs.Life.{IsPutAt, is_gone, put_before, put_here}
use Rattle.check_certificate.proofs.Marks.{mark_at}
use Rattle.check_certificate.proofs.Orders.{IsHere, IsSaid, call_before, event_order, here, may_at, new_file, older, ring, s, said, said_may, table}
use Rattle.check_certificate.proofs.Parts.{by_put, part_length, part_of_part, shorter}
use Rattle.fx_table.proofs.SumLemmas.{contains_map}
use Rattle.std.proofs.lemmas.List.Folds.{list_any_at}
use Rattle.std.specs.Borrow.{Bor}
use Rattle.std.specs.Slice.{IsItemAt}

abbrev pub strict_from : Point → Point → PointOrder
strict_from from to = record { from = from; to = to; strict = true }

abbrev pub not_after : Point → Point → PointOrder
not_after from to = record { from = from; to = to; strict = false }

pub strict_order : (clock : Point → ℕ) (from to : Point) → clock from < clock to → IsInOrder clock (strict_from from to)
strict_order clock from to low = omega arith

pub loose_order : (clock : Point → ℕ) (from to : Point) → clock from ≤ clock to → IsInOrder clock (not_after from to)
loose_order clock from to low = omega arith

-- a point that isn't at the time of another one or after it comes before it
pub unless_after : (clock : Point → ℕ) (from to : Point) → (clock to ≤ clock from → ⊥) → IsInOrder clock (strict_from from to)
unless_after clock from to never = ⊎_elim (λ lt. strict_order clock from to lt) (λ after. absurd (never after)) (cases_lt (clock from) (clock to))

-- the times of a strict order
pub apart : (clock : Point → ℕ) (from to : Point) → IsInOrder clock (strict_from from to) → clock from < clock to
apart clock from to low = omega arith

-- the order is weaker than the times
pub weaker : (clock : Point → ℕ) (o : PointOrder) → IsInOrder clock o → clock o.from ≤ clock o.to
weaker clock o is = let low = is in omega arith

-- what an access leaves at its slot
pair_of : (p q : ℕ × Option Identity) → Some p ≡ Some q → (p.0 ≡ q.0) × (p.1 ≡ q.1)
pair_of p q is = let same : p ≡ q = cc in (ap (λ (r : ℕ × Option Identity). r.0) same, ap (λ (r : ℕ × Option Identity). r.1) same)

left_so : (t : Table) (a : Access) (evidence : Evidence) (slot : ℕ) (left : Option Identity) → IsEvident a evidence → left_at evidence ≡ Some (slot, left) → Permits t a
    → (table_with t a).at slot ≡ left
left_so t a evidence slot left is so may = grind (arith, pair_of, at_itself, there_after)

-- an event calls one call
pub call_id : (e : Happening) (one other : ℕ) → IsCallOf one e → IsCallOf other e → one ≡ other
call_id e one other is so = grind arith

module _ (b : LogBeginning) where
  -- a file that was installed before the end of a part, and isn't there after it, has left the slot
  pub gone_by : (f : TimedFlight b) (slot : ℕ) (file : Identity) (part : List Moment) → IsOlderPart part f.legal.flight → f.at (Put file) < length part
      → (IsLeftAt (table f) part slot file → ⊥) → f.at (Gone file slot) < length part
  gone_by f slot file =
      is_gone (table f) slot file f.legal.flight (f.at (Put file)) (f.times.put file) (f.at (Gone file slot)) (f.times.gone file slot)

  pub begins_forced : (call answer k : ℕ) (evidence : Evidence) (o : PointOrder) → o ≡ strict_from (Event call) (At answer k)
      → IsAccessMade b call answer k evidence → IsForced b o
  begins_forced call answer k evidence o is made f =
      let x = said f made in rw is (strict_order f.at (Event call) (At answer k) (call_before f x.called x.own x.time))

  pub ends_forced : (call answer k : ℕ) (evidence : Evidence) (o : PointOrder) → o ≡ strict_from (At answer k) (Event answer)
      → IsAccessMade b call answer k evidence → IsForced b o
  ends_forced call answer k evidence o is made f = grind (arith, said, strict_order, said f made)

  pub calls_forced : (i id : ℕ) (e : Happening) (file : Identity) → IsEventAt b i e → IsCallOf id e → IsOfCall id file
      → IsForced b (strict_from (Event i) (Put file))
  calls_forced i id e file is call of f =
      ⊎_elim
      (λ put. let mark = mark_at (ring f) f.legal.answers f.legal.flight f.legal.is file put.0 put.1 (f.at (Put file)) put.2 put.3 put.4 in
      let same : put.0 ≡ id = cc (sym mark.2 ∙ of.3) in
      strict_order f.at (Event i) (Put file) (call_before f is call (rw same at put.4)))
      (λ past. let x = here f is in
      let count = x.count in
      let few = part_length f.legal.flight (Logged e ∷ x.earlier) x.inside in strict_order f.at (Event i) (Put file) (omega arith))
      (f.times.put file).some

  pub installs_forced : (call answer k slot : ℕ) (file : Identity) (evidence : Evidence) (o : PointOrder) → o ≡ strict_from (Put file) (Event answer)
      → evidence ≡ Installs slot file → IsAccessMade b call answer k evidence → IsForced b o
  installs_forced call answer k slot file evidence o so is made f =
      let x = said f (subst (IsAccessMade b call answer k) is made) in
      let same = (f.times.put file).each x.id slot (f.at (At answer k)) x.access x.is x.time in
      let low = x.before in rw so (strict_order f.at (Put file) (Event answer) (omega arith))

  pub places_forced : (call answer k slot : ℕ) (file : Identity) (evidence : Evidence) (o : PointOrder) → o ≡ strict_from (Put file) (Gone file slot)
      → evidence ≡ Installs slot file → IsAccessMade b call answer k evidence → IsForced b o
  places_forced call answer k slot file evidence o so is made f =
      let x = said f (subst (IsAccessMade b call answer k) is made) in
      let same = (f.times.put file).each x.id slot (f.at (At answer k)) x.access x.is x.time in
      let there : IsLeftAt (table f) (Accesses (record { chain = x.id; access = x.access }) ∷ x.time.0) slot file =
      there_after (table_left_by (table f) x.time.0) x.access slot file x.is in
      let low = (f.times.gone file slot).last (Accesses (record { chain = x.id; access = x.access }) ∷ x.time.0) x.time.1 there in
      let count = x.time.2 in rw so (strict_order f.at (Put file) (Gone file slot) (omega arith))

  module _ (call answer k slot : ℕ) (file : Identity) (evidence : Evidence) (o : PointOrder) where
    found_there : (f : TimedFlight b) (x : IsSaid f call answer k (Finds slot file)) → IsLeftAt (table f) x.time.0 slot file
    found_there f x = grind (arith, table, said_may, table f, said_may f x)

    pub follows_forced : (id : ℕ) → o ≡ strict_from (Put file) (At answer k) → evidence ≡ Finds slot file → IsAccessMade b call answer k evidence
        → IsOfCall id file → IsForced b o
    follows_forced id so is made of f =
        let x = said f (subst (IsAccessMade b call answer k) is made) in
        let low = put_before (table f) slot file f.legal.flight (f.at (Put file)) (f.times.put file) (new_file f file id of slot) x.time.0 (older f x.time.1)
        (found_there f x) in
        let count = x.time.2 in rw so (strict_order f.at (Put file) (At answer k) (omega arith))

    pub finds_forced : o ≡ strict_from (At answer k) (Gone file slot) → evidence ≡ Finds slot file → IsAccessMade b call answer k evidence
        → IsForced b o
    finds_forced so is made f =
        let x = said f (subst (IsAccessMade b call answer k) is made) in
        let tab : Table = table_left_by (table f) x.time.0 in
        let there : (table_with tab (Looks slot (Some file))).at slot ≡ Some file = found_there f x in
        let now : (table_with tab x.access).at slot ≡ Some file = rw x.is there in
        let low = (f.times.gone file slot).last (Accesses (record { chain = x.id; access = x.access }) ∷ x.time.0) x.time.1 now in
        let count = x.time.2 in rw so (strict_order f.at (At answer k) (Gone file slot) (omega arith))

  -- a file that was closed was installed before, and has left each slot
  closed_gone : (close id slot : ℕ) (file : Identity) (f : TimedFlight b) (x : IsHere f close (FileClosed file)) → IsOfCall id file
      → (f.at (Put file) < length x.earlier) × (IsLeftAt (table f) x.earlier slot file → ⊥)
  closed_gone close id slot file f x of =
      taken_gone (s f) f.legal.flight f.legal.is file (new_file f file id of) (f.at (Put file)) (f.times.put file) x.earlier (older f x.inside) (may_at f x).removed slot

  pub closes_forced : (close id slot : ℕ) (file : Identity) (o : PointOrder) → o ≡ strict_from (Gone file slot) (Event close)
      → IsEventAt b close (FileClosed file) → IsOfCall id file → IsForced b o
  closes_forced close id slot file o so is of f =
      let x = here f is in
      let left = closed_gone close id slot file f x of in
      let low = gone_by f slot file x.earlier (older f x.inside) left.0 left.1 in
      let count = x.count in rw so (strict_order f.at (Gone file slot) (Event close) (omega arith))

  pub existed_forced : (close id : ℕ) (file : Identity) (o : PointOrder) → o ≡ strict_from (Put file) (Event close)
      → IsEventAt b close (FileClosed file) → IsOfCall id file → IsForced b o
  existed_forced close id file o so is of f =
      let x = here f is in
      let low = (closed_gone close id 0 file f x of).0 in let count = x.count in rw so (strict_order f.at (Put file) (Event close) (omega arith))

  pub settles_forced : (settled id slot : ℕ) (file : Identity) → IsEventAt b settled AllSettled → IsOfCall id file
      → (Contains (take settled (log_of_beginning b)) (FileClosed file) → ⊥)
      → IsForced b (strict_from (Put file) (Event settled)) → IsForced b (strict_from (Put file) (Gone file slot))
      → IsForced b (strict_from (Event settled) (Gone file slot))
  settles_forced settled id slot file is of unclosed installed placed f =
      let x = here f is in
      let t = table f in
      let inside = older f x.inside in
      let new = new_file f file id of in
      let early = apart f.at (Put file) (Event settled) (installed f) in
      let later = apart f.at (Put file) (Gone file slot) (placed f) in
      let count = x.count in
      ⊎_elim (λ never. absurd (omega arith))
      (λ last. let put = put_here t slot file f.legal.flight (f.at (Put file)) (f.times.put file) (new slot) last.0 last.1 last.2 in
      let m : Moment = Accesses (record { chain = put.0; access = put.1 }) in
      let own = put.3.2 in
      let part = shorter x.earlier (m ∷ put.3.0) inside (part_of_part last.1 put.3.1) (omega arith) in
      let here_put : IsPutAt x.earlier slot file (f.at (Put file)) = (put.0, put.1, put.2, (put.3.0, part, put.3.2)) in
      ⊎_elim
      (λ there. let low = (f.times.gone file slot).last (Logged AllSettled ∷ x.earlier) x.inside there in strict_order f.at (Event settled) (Gone file slot) (omega arith))
      (λ taken. absurd (unclosed (rw (front_is x.front (AllSettled ∷ x.rest) (log_of_beginning b) settled x.parts x.few).0
      (rw x.same at (in_log x.earlier (FileClosed file) (may_at f x file taken))))))
      (there_or_taken (s f) f.legal.flight f.legal.is file new (f.at (Put file)) (f.times.put file) slot x.earlier inside here_put))
      (f.times.gone file slot).there

  -- if the file is installed by now, it has left the slot of an access that leaves none or another
  -- file there
  left_now : (call answer k slot : ℕ) (evidence : Evidence) (left : Option Identity) (file : Identity) → IsAccessMade b call answer k evidence
      → left_at evidence ≡ Some (slot, left) → (left ≡ Some file → ⊥)
      → (f : TimedFlight b) → f.at (Put file) ≤ f.at (At answer k) → f.at (Gone file slot) ≤ f.at (At answer k)
  left_now call answer k slot evidence left file made so other f early =
      let x = said f made in
      let t = table f in
      let m : Moment = Accesses (record { chain = x.id; access = x.access }) in
      let now : IsLeftAt t (m ∷ x.time.0) slot file → ⊥ =
      λ there. other (sym (left_so (table_left_by t x.time.0) x.access evidence slot left x.is so (said_may f x)) ∙ there) in
      grind (arith, x.time.2, gone_by f slot file (m ∷ x.time.0) x.time.1 (omega arith) now)

  pub empties_forced : (call answer k slot : ℕ) (evidence : Evidence) (left : Option Identity) (file : Identity) → IsAccessMade b call answer k evidence
      → left_at evidence ≡ Some (slot, left) → (left ≡ Some file → ⊥) → (o : PointOrder) → o.from ≡ Put file → o.to ≡ At answer k → IsForced b o
      → IsForced b (not_after (Gone file slot) (At answer k))
  empties_forced call answer k slot evidence left file made so other o from to known f =
      let early = rw (from, to) at (weaker f.at o (known f)) in
      loose_order f.at (Gone file slot) (At answer k) (left_now call answer k slot evidence left file made so other f early)

  pub precedes_forced : (call answer k slot : ℕ) (evidence : Evidence) (left : Option Identity) (file : Identity) → IsAccessMade b call answer k evidence
      → left_at evidence ≡ Some (slot, left) → (left ≡ Some file → ⊥) → IsForced b (strict_from (At answer k) (Gone file slot))
      → IsForced b (strict_from (At answer k) (Put file))
  precedes_forced call answer k slot evidence left file made so other known f =
      let late = apart f.at (At answer k) (Gone file slot) (known f) in
      unless_after f.at (At answer k) (Put file) (λ early. let low = left_now call answer k slot evidence left file made so other f early in omega arith)

  -- if the file was installed before another one that was at the slot, it has left the slot by then
  displaced : (slot id : ℕ) (file other : Identity) → IsOfCall id other → (other ≡ file → ⊥)
      → (f : TimedFlight b) → f.at (Put other) < f.at (Gone other slot) → f.at (Put file) ≤ f.at (Put other) → f.at (Gone file slot) ≤ f.at (Put other)
  displaced slot id file other of differs f placed early = grind (arith, new_file, put_here, there_after, gone_by, part_of_part)

  pub displaces_forced : (slot id : ℕ) (file other : Identity) → IsOfCall id other → (other ≡ file → ⊥) → (o : PointOrder) → o.from ≡ Put file
      → o.to ≡ Put other → IsForced b o → IsForced b (strict_from (Put other) (Gone other slot))
      → IsForced b (not_after (Gone file slot) (Put other))
  displaces_forced slot id file other of differs o from to known placed f =
      let early = rw (from, to) at (weaker f.at o (known f)) in
      loose_order f.at (Gone file slot) (Put other) (displaced slot id file other of differs f (apart f.at (Put other) (Gone other slot) (placed f)) early)

  pub outlives_forced : (slot id : ℕ) (file other : Identity) → IsOfCall id other → (other ≡ file → ⊥)
      → IsForced b (strict_from (Put other) (Gone file slot)) → IsForced b (strict_from (Put other) (Gone other slot))
      → IsForced b (strict_from (Put other) (Put file))
  outlives_forced slot id file other of differs known placed f =
      let late = apart f.at (Put other) (Gone file slot) (known f) in
      let there = apart f.at (Put other) (Gone other slot) (placed f) in
      unless_after f.at (Put other) (Put file) (λ early. let low = displaced slot id file other of differs f there early in omega arith)

  in_front : (front ys : List Happening) (i : ℕ) (d : Happening) → slice_get (front ++ ys) i ≡ Some d → i < length front → Contains front d
  in_front [] ys i d is low = absurd (omega arith)
  in_front (x ∷ front) ys zero d is low = let same : x ≡ d = cc in rw same (contains_head d front)
  in_front (x ∷ front) ys (suc i) d is low = contains_tail x front d (in_front front ys i d is (omega arith))

  -- an event before another one is in the flight before it
  is_earlier : (i j : ℕ) (d e : Happening) → IsEventAt b i d → i < j → (f : TimedFlight b) (x : IsHere f j e) → WasLogged x.earlier d
  is_earlier i j d e first low f x = logged x.earlier d (rw x.same (in_front x.front (e ∷ x.rest) i d (rw x.parts at first) (omega (arith, x.few))))

  pub finds_closed : (close answer id : ℕ) (file : Identity) → IsEventAt b close (FileClosed file) → IsEventAt b answer (LookAnswered id (Some file))
      → close < answer → IsForced b (strict_from (Event answer) (Event answer))
  finds_closed close answer id file first second low f =
      let x = here f second in
      absurd ((may_at f x).3 file refl (is_earlier close answer (FileClosed file) (LookAnswered id (Some file)) first low f x))

  pub closes_twice : (close again : ℕ) (file : Identity) → IsEventAt b close (FileClosed file) → IsEventAt b again (FileClosed file)
      → close < again → IsForced b (strict_from (Event again) (Event again))
  closes_twice close again file first second low f =
      let x = here f second in absurd ((may_at f x).once (is_earlier close again (FileClosed file) (FileClosed file) first low f x))

  pub closes_held : (answer close id : ℕ) (file : Identity) → IsEventAt b answer (LookAnswered id (Some file)) → IsEventAt b close (FileClosed file)
      → answer < close → (Contains (take close (log_of_beginning b)) (Freed id) → ⊥) → IsForced b (strict_from (Event close) (Event close))
  closes_held answer close id file first second low held f =
      let x = here f second in
      absurd (held (rw (front_is x.front (FileClosed file ∷ x.rest) (log_of_beginning b) close x.parts x.few).0 (rw x.same at (in_log x.earlier (Freed id)
      ((may_at f x).unheld id (is_earlier answer close (LookAnswered id (Some file)) (FileClosed file) first low f x))))))

  -- accesses of different calls are at different times
  pub differs_forced : (call answer k other later j : ℕ) (one two : Evidence) (id jd : ℕ) (d e : Happening) → IsAccessMade b call answer k one → IsAccessMade b other later j two
      → IsEventAt b call d → IsCallOf id d → IsEventAt b other e → IsCallOf jd e → (id ≡ jd → ⊥)
      → (o : PointOrder) → o.from ≡ At answer k → o.to ≡ At later j → IsForced b o → IsForced b (strict_from (At answer k) (At later j))
  differs_forced call answer k other later j one two id jd d e first second d_at d_is e_at e_is differ o from to known f =
      let x = said f first in
      let y = said f second in
      let low = rw (from, to) at (weaker f.at o (known f)) in
      unless_after f.at (At answer k) (At later j) (λ high.
      let time : f.at (At answer k) ≡ f.at (At later j) = omega arith in
      grind (arith, call_id, y.id, (same_moment f.legal.flight (f.at (At later j)) x.id y.id x.access y.access (rw time at x.time) y.time).0, x.called, y.called, x.own, y.own))

  -- no access installs a file past the last slot
  pub outside : (call answer slot : ℕ) (file : Identity) → IsAccessMade b call answer 0 (Installs slot file) → (slot < slot_count b → ⊥)
      → IsForced b (strict_from (Event answer) (Event answer))
  outside call answer slot file made past f =
      let x = said f made in grind (arith, by_put, size_stays, said_may f x)

  pub cant_answer : (call answer : ℕ) → IsAccessMade b call answer 0 Never → IsForced b (strict_from (Event answer) (Event answer))
  cant_answer call answer made f = let x = said f made in absurd x.is

-- an event of a list, by its place
pub event_is : (events : List LogEvent) (k : ℕ) (event : LogEvent) → k < length events → event ≡ slice_index_or events k event
    → slice_get (all_happenings events) k ≡ Some (happening_of event)
event_is events k event low is =
    slice_get-map happening_of events k ∙ ap (option_map happening_of) (slice_get_read events (length events) k event refl low is)

-- what follows from a claim of an option's value holds of it too
pub some_weaker : {X : Type 0} (o : Option X) (P Q : X → Type 0) → ((x : X) → P x → Q x) → IfSome o P → IfSome o Q
some_weaker o P Q more is = grind arith

-- the event at a position of the log
pub event_at : (b : LogBeginning) (p : ℕ) → p < length b.events.now → (e : Happening) × IsEventAt b p e
event_at b p inside =
    let log = log_of_beginning b in
    let long = length-map b.events.now happening_of in
    (slice_index_or log p AllSettled, slice_get-get_or log p AllSettled (omega arith))

pub positions_forced : (b : LogBeginning) (i j : ℕ) (o : PointOrder) → o ≡ strict_from (Event i) (Event j) → i < j → j < length b.events.now
    → IsForced b o
positions_forced b i j o is low inside f = grind (arith, event_at, strict_order, event_order, event_at b i (omega arith), event_at b j inside)

-- an event of the log is one that a test finds
pub logged_any : (test : LogEvent → Bool) (events : List LogEvent) (event : Happening) → ((e : LogEvent) → happening_of e ≡ event → test e ≡ true)
    → Contains (all_happenings events) event → list_any test events ≡ true
logged_any test events event finds inside = grind (arith, list_any_at, contains_map happening_of events event inside)

-- a read of a list, seen through a function
pub got_mapped : {A B : Type 0} (f : A → B) (xs : List A) (k : ℕ) (found : Option (Bor A)) → IsItemAt xs k found
    → option_map (λ (x : Bor A). f x.now) found ≡ slice_get (map f xs) k
got_mapped f xs k None is = grind (arith, common_steps, slice_get_past)
got_mapped f xs k (Some x) is = sym (slice_get-map f xs k ∙ ap (option_map f) (slice_get_read xs (length xs) k x.now refl is.3.0 is.1))

pub request_is : (chain : List Request) (k m : ℕ) (r : Request) (request : Asked) → k ≡ m → k < length chain → r ≡ slice_index_or chain k r
    → slice_get (all_asked chain) m ≡ Some request → asked_of r ≡ request
request_is chain k m r request same low is asked =
    let here : slice_get (all_asked chain) k ≡ Some (asked_of r) =
    slice_get-map asked_of chain k ∙ ap (option_map asked_of) (slice_get_read chain (length chain) k r refl low is) in grind arith
