-- Steps of the proof alone in a table's invariant: a seat shows a view, and a seat learns from a
-- shown view. Assumes `Logic`.
use Rattle.std.proofs.Common.{◌≡◌, ℕ, zero, suc, ◌+◌, List, [], ◌∷◌, ◌++◌, length, set, sym, refl, ap, subst, arith}
use mathlib.Core.Option.{some-ne-none}
use mathlib.Core.List.{not-mem-nil}
use lib.ListN.{get_elem?}
use mathlib.Mathlib.Data.Part.{◌∈◌, mem_unique}
use seplogic.Ra.Pcs.{OpDef, OpDef-comm}
use seplogic.Ra.Ura.{Ura}
use base.Fraction.{full_share}
use base.Share.{quarter, three_quarters}
use base.FractionLaws.{not-OpDef-full_share}
use base.Stored.{Gv, Coded}
use base.SetCodes.{coded, SetCoded-set}
use base.Algebras.{pcs, shares}
use base.Logic.{SProp, ent, sep, wand, ex, all, guard, upd, id⊢, via, all_e, ex_e, guard_e, guard_i, upd_i, emp, apply∗}
use base.Fml.{Lft, Share, Fml, ftrue, fsep, fex, fbor, flft, fnamed}
use ghost.Rules.{Halves}
use types.Logic.{Logic, sem, lfts}
use types.Keyed.{entry, entries_beside, entry_cut, entry_glue, entry_keyless}
use types.Tokens.{bor_new, bor_fracture}
use types.Kit.{‵, raw, ◌⊛◌, some, given, ◌$◌, ◌∵◌, !, qed, move, keep, drop, split, join, fsplit, fsplit3, fjoin, fjoin3, fpick, fpack, pick, learn}
use types.Kit.{show, check, frame, assume, suffices, settle, done, use1, use2, updating, now, rewrite, later, await}
use denote.RattleType.{RattleType}
use denote.RawPtr.{Ptr}
use denote.Steps.{nothing}
use Rattle.atomic_table.specs.Table.{State, Me, Splits}
use Rattle.atomic_table.specs.Seated.{fact, itself, halved, seen, unused, roster, carried, TableId, age, place, names, standing, inner, common, mine}
use Rattle.atomic_table.proofs.Roster.{Moved, moves, Joined, joins}
use Rattle.fx_seen.specs.Kept.{kept, seen_owns, MayLearn}
use mir.Val.{Val, vstruct, vcons, vnil}
use base.Shift.{Keyless}
use denote.Sharing.{said}
use denote.Struct.Lending.{Lends}
use denote.Shadow.{makes_shadow}
use denote.Struct.Struct.{Struct}
use denote.Struct.Owning.{shape}
use mathlib.Core.Option as maybe
use seplogic.Ra.Constructions.Prod
use seplogic.Ra.Instances.Ag
use base.Share
use Rattle.fx_seen.specs.contracts.Seen as seen

module _ {M : Type 1} {𝓤 : Ura M} (𝓛 : Logic 𝓤) where
  open 𝓛 use {H, A}

  abbrev Pr : Type 2
  Pr = SProp 𝓤

  abbrev ◌⊢◌ : Pr → Pr → Type 1
  P ⊢ Q = ent 𝓤 P Q

  abbrev ◌∗◌ : Pr → Pr → Pr
  P ∗ Q = sep 𝓤 P Q

  infix 26 ◌⊢◌
  infixr 35 ◌∗◌
  abbrev ◌-∗◌ : Pr → Pr → Pr
  P -∗ Q = wand 𝓤 P Q

  abbrev ⟦◌⟧ : Fml → Pr
  ⟦ P ⟧ = sem 𝓛 P

  infixr 30 ◌-∗◌
  module _ {V : Type 0} (cv : Coded V) (γ : ℕ) where
    abbrev c : V → Gv
    c = cv.code

    abbrev L : ℕ → V → Fml
    L k v = seen c γ k quarter v

    -- two shares of a seat's view are of one view, and both are kept
    agrees : (k : ℕ) (w v : V) (q : Share) → ⟦ L k w ⟧ ∗ ⟦ seen c γ k q v ⟧ ⊢ guard 𝓤 (w ≡ v) (⟦ L k w ⟧ ∗ ⟦ seen c γ k q v ⟧)
    agrees k w v q = let F : Share × Gv → Pr = λ x. guard 𝓤 (x ∈ halved.op (quarter, c w) (q, c v)) ⟦ entry halved γ k x ⟧ in
        let Both : Pr = ⟦ L k w ⟧ ∗ ⟦ seen c γ k q v ⟧ in let Z : Pr = guard 𝓤 (w ≡ v) Both in
        via 𝓤 (ex 𝓤 F) (entry_glue halved 𝓛 γ k (quarter, c w) (q, c v)) (ex_e 𝓤 F (λ x. guard_e 𝓤 (x ∈ halved.op (quarter, c w) (q, c v)) ⟦ entry halved γ k x ⟧ (λ m.
        via 𝓤 Both (entry_cut halved 𝓛 γ k (quarter, c w) (q, c v) x m) (guard_i 𝓤 (w ≡ v) Both (cv.inj w v m.0.1)))))

    -- a view of which there is a share is listed, and both are kept
    pub is_listed : (vs : List V) (k i j : ℕ) (v : V) (q : Share) → j ≡ k + i
        → ⟦ roster c γ k vs ⟧ ∗ ⟦ seen c γ j q v ⟧ ⊢ guard 𝓤 (get_elem? vs i ≡ maybe.some v) (⟦ roster c γ k vs ⟧ ∗ ⟦ seen c γ j q v ⟧)
    is_listed [] k i j v q e = qed 𝓛 (‵ (roster c γ k []) ∷ ‵ (seen c γ j q v) ∷ []) ∵ fpick ! (λ d. move ! (1 ∷ 0 ∷ []) $
        use2 𝓛 (given (OpDef halved.op (q, c v) (full_share, c d)) (‵ (seen c γ j q v) ⊛ ‵ (unused c γ k d))) (entries_beside halved 𝓛 γ k j (λ _. (full_share, c d)) (q, c v) (omega arith)) $
        learn ! (λ x. absurd (not-OpDef-full_share q ((OpDef-comm (pcs shares) {a = q} {b = full_share}).0 x.0))))
    is_listed (w ∷ ws) k zero j v q e = let is : j ≡ k = omega arith in qed 𝓛 ((‵ (L k w) ⊛ ‵ (roster c γ (suc k) ws)) ∷ ‵ (seen c γ j q v) ∷ []) ∵ split ! $
        rewrite ! 2 (λ (m : ℕ). ‵ (seen c γ m q v)) is refl $ move ! (0 ∷ 2 ∷ []) $
        use2 𝓛 (given (w ≡ v) (‵ (L k w) ⊛ ‵ (seen c γ k q v))) (agrees k w v q) $ learn ! (λ same. check ! (ap maybe.some same) $ split ! $
        rewrite ! 1 (λ (m : ℕ). ‵ (seen c γ m q v)) (sym is) refl $ move ! (0 ∷ 2 ∷ []) $ join ! $ done !)
    is_listed (w ∷ ws) k (suc i) j v q e = qed 𝓛 ((‵ (L k w) ⊛ ‵ (roster c γ (suc k) ws)) ∷ ‵ (seen c γ j q v) ∷ []) ∵ split ! $ move ! (1 ∷ 2 ∷ []) $
        use2 𝓛 (given (get_elem? ws i ≡ maybe.some v) (‵ (roster c γ (suc k) ws) ⊛ ‵ (seen c γ j q v))) (is_listed ws (suc k) i j v q (omega arith)) $ learn ! (λ at. check ! at $
        split ! $ move ! (2 ∷ 0 ∷ []) $ join ! $ done !)

    twofold : (v : V) (q : Share) → (q, c v) ∈ halved.op (Share.left q, c v) (Share.right q, c v)
    twofold v q = Prod.mk-mem-op Share.op (Ag.op (SetCoded-set (coded itself))) {a = Share.left q} {a' = Share.right q} {x = q} {b = c v} {b' = c v} {y = c v} (Share.halves q) (Ag.idem (SetCoded-set (coded itself)) (c v))

    glued : (k : ℕ) (v : V) (q : Share) → ⟦ seen c γ k (Share.left q) v ⟧ ∗ ⟦ seen c γ k (Share.right q) v ⟧ ⊢ ⟦ seen c γ k q v ⟧
    glued k v q = let B : Share × Gv → Type 0 = λ x. x ∈ halved.op (Share.left q, c v) (Share.right q, c v) in let F : Share × Gv → Pr = λ x. guard 𝓤 (B x) ⟦ entry halved γ k x ⟧ in
        via 𝓤 (ex 𝓤 F) (entry_glue halved 𝓛 γ k (Share.left q, c v) (Share.right q, c v)) (ex_e 𝓤 F (λ x. guard_e 𝓤 (B x) ⟦ entry halved γ k x ⟧ (λ m.
        subst (λ (y : Share × Gv). ⟦ entry halved γ k x ⟧ ⊢ ⟦ entry halved γ k y ⟧) (mem_unique (halved.op (Share.left q, c v) (Share.right q, c v)) m (twofold v q)) (id⊢ 𝓤 ⟦ entry halved γ k x ⟧))))

    pub view_halves : (k : ℕ) (v : V) → Halves 𝓤 H A (λ q. seen c γ k q v)
    view_halves k v = record { cut = λ q. entry_cut halved 𝓛 γ k (Share.left q, c v) (Share.right q, c v) (q, c v) (twofold v q); join = glued k v }

  module _ (R : RattleType) {V : Type 0} (cv : Coded V) (holds : State R.Denot V → Type 0) (w p : Ptr) (z : TableId) where
    abbrev κ : Lft
    κ = age z

    abbrev C : Fml
    C = common R cv.code holds w p z

    abbrev S : Type 0
    S = R.Denot

    abbrev I : Fml
    I = inner R cv.code holds w p z

    abbrev sat : ℕ → Me S V → Fml
    sat = mine R cv.code z

    abbrev half : ℕ → V → Fml
    half id v = seen cv.code z.views_name id three_quarters v

    abbrev all_of : List V → Fml
    all_of vs = roster cv.code z.views_name 0 vs

    abbrev Fits : State S V → Type 0
    Fits s = holds s × (length s.words ≡ z.words) × (length s.homes ≡ z.slots)

    abbrev reviewed : State S V → List V → State S V
    reviewed s vs = record { words = s.words; homes = s.homes; views = vs }

    abbrev Next : State S V → Pr → List V → Pr
    Next s Q vs = guard 𝓤 (holds (reviewed s vs)) (⟦ all_of vs ⟧ ∗ Q)

    -- the table's invariant is opened for a step of the proof that may change views
    pub visited : (q : Share) (K : Fml) (Q : Fml) → ((s : State S V) → Fits s → ⟦ all_of s.views ⟧ ∗ ⟦ K ⟧ ⊢ upd 𝓤 (ex 𝓤 (Next s ⟦ Q ⟧)))
        → ⟦ C ⟧ ∗ A.lft κ q ∗ ⟦ K ⟧ ⊢ H.⇛ (⟦ Q ⟧ ∗ A.lft κ q)
    visited q K Q law = qed 𝓛 (‵ C ∷ ‵ (flft κ q) ∷ ‵ K ∷ []) ∵ fsplit ! $ drop ! $ use1 𝓛 (some (λ (j : ℕ). ‵ (fnamed j (fbor κ I)))) (𝓛.invs.inv_named (fbor κ I)) $ pick ! (λ j.
        suffices ! _ (𝓛.invs.invs_bor_acc j κ q I [] ⟦ Q ⟧ ((λ m. not-mem-nil m), tt)) $ nothing ! $ move ! (1 ∷ 0 ∷ []) $ fjoin ! $ frame ! $ frame ! $
        let Z : Pr = ⟦ I ⟧ ∗ ⟦ ftrue ⟧ ∗ ⟦ Q ⟧ in assume ! (‵ I ⊛ ‵ ftrue) $ split ! $
        fpick ! (λ s. fsplit3 ! $ move ! (2 ∷ []) $ fpick ! (λ so. drop ! $ move ! (1 ∷ []) $ fsplit ! $ move ! (1 ∷ 4 ∷ []) $
        use2 𝓛 (raw (upd 𝓤 (ex 𝓤 (Next s ⟦ Q ⟧)))) (law s so) $
        settle 𝓛 Z (some (λ (vs : List V). given (holds (reviewed s vs)) (‵ (all_of vs) ⊛ ‵ Q))) $ pick ! (λ vs. learn ! (λ good. split ! $ suffices ! _ (upd_i 𝓤 Z) $
        move ! (2 ∷ 0 ∷ []) $ fjoin ! $ nothing ! $ fpack ! (Fits (reviewed s vs)) (λ _. ftrue) (good, so.1, so.2) $
        move ! (3 ∷ 1 ∷ 0 ∷ []) $ fjoin3 ! $ fpack ! (State S V) (standing R cv.code holds w p z) (reviewed s vs) $ keep ! (0 ∷ 2 ∷ 1 ∷ []) $ done !)))))

    -- ---- a seat with the view `me.0` shows `r` and keeps `l`
    module _ (id : ℕ) (me : Me S V) (l r : V) where
      abbrev pub shown : ℕ → Fml
      shown j = fsep (half j r) (sat id (l, me.1))

      pub shows : (q : Share) → Splits holds id me.0 l r → ⟦ C ⟧ ∗ A.lft κ q ∗ ⟦ sat id me ⟧ ⊢ H.⇛ (⟦ fex ℕ shown ⟧ ∗ A.lft κ q)
      shows q law = visited q (sat id me) (fex ℕ shown) (λ s so. let Z : Pr = ex 𝓤 (Next s ⟦ fex ℕ shown ⟧) in let γ : ℕ = z.views_name in let vs : List V = set s.views id l in
          qed 𝓛 (‵ (all_of s.views) ∷ (‵ (half id me.0) ⊛ ‵ (carried κ R (place z) (names z) z.slots me.1)) ∷ []) ∵ move ! (1 ∷ []) $ split ! $ move ! (2 ∷ 0 ∷ []) $
          use2 𝓛 (given (get_elem? s.views id ≡ maybe.some me.0) (raw (all 𝓤 (Moved 𝓛 cv γ 0 s.views id id)))) (moves 𝓛 cv γ s.views 0 id id me.0 (omega arith)) $ learn ! (λ at.
          use1 𝓛 (raw (Moved 𝓛 cv γ 0 s.views id id l)) (all_e 𝓤 (Moved 𝓛 cv γ 0 s.views id id) l) $ settle 𝓛 Z (‵ (all_of vs) ⊛ ‵ (half id l)) $ split ! $
          use1 𝓛 (raw (upd 𝓤 (ex 𝓤 (Joined 𝓛 cv γ 0 vs r)))) (joins 𝓛 cv γ vs 0 r) $ settle 𝓛 Z (some (λ (j : ℕ). ‵ (all_of (vs ++ r ∷ [])) ⊛ ‵ (half j r))) $ pick ! (λ j. split ! $
          suffices ! _ (upd_i 𝓤 Z) $ show ! (Next s ⟦ fex ℕ shown ⟧) (vs ++ r ∷ []) $ check ! (law s so.0 at) $ frame ! $ show ! (λ (i : ℕ). ⟦ shown i ⟧) j $ frame ! $ done !)))

    -- a shown view is lent to everyone for as long as the table lasts
    pub lends : (j : ℕ) (r : V) → ⟦ half j r ⟧ ⊢ H.⇛ ⟦ seen_owns cv.code z j r ⟧
    lends j r = qed 𝓛 (‵ (kept cv.code z j r three_quarters) ∷ []) ∵ updating ! $ bor_new ! tt κ $ bor_fracture ! tt (kept cv.code z j r) three_quarters $ keep ! (0 ∷ []) $ now ! $ done !

    -- ---- a seat with the view `me.0` learns from the shown view `x`
    module _ (id : ℕ) (me : Me S V) (j : ℕ) (x : V) (q : Share) (then : V → Type 0) where
      abbrev pub seated_with : V → Fml
      seated_with u = fsep (fact (then u)) (sat id (u, me.1))

      abbrev pub learned : Fml
      learned = fsep (fex V seated_with) (kept cv.code z j x q)

      pub learns : (q' : Share) → MayLearn holds id me.0 x then → ⟦ C ⟧ ∗ A.lft κ q' ∗ ⟦ fsep (sat id me) (kept cv.code z j x q) ⟧ ⊢ H.⇛ (⟦ learned ⟧ ∗ A.lft κ q')
      learns q' law = visited q' (fsep (sat id me) (kept cv.code z j x q)) learned (λ s so. let Z : Pr = ex 𝓤 (Next s ⟦ learned ⟧) in let γ : ℕ = z.views_name in
          qed 𝓛 (‵ (all_of s.views) ∷ ((‵ (half id me.0) ⊛ ‵ (carried κ R (place z) (names z) z.slots me.1)) ⊛ ‵ (kept cv.code z j x q)) ∷ []) ∵ move ! (1 ∷ []) $ split ! $ split ! $ move ! (3 ∷ 2 ∷ []) $
          use2 𝓛 (given (get_elem? s.views j ≡ maybe.some x) (‵ (all_of s.views) ⊛ ‵ (kept cv.code z j x q))) (is_listed cv γ s.views 0 j j x q (omega arith)) $ learn ! (λ there. split ! $ move ! (0 ∷ 2 ∷ []) $
          use2 𝓛 (given (get_elem? s.views id ≡ maybe.some me.0) (raw (all 𝓤 (Moved 𝓛 cv γ 0 s.views id id)))) (moves 𝓛 cv γ s.views 0 id id me.0 (omega arith)) $ learn ! (λ at.
          let found = law s so.0 at j there in let u : V = found.0 in
          use1 𝓛 (raw (Moved 𝓛 cv γ 0 s.views id id u)) (all_e 𝓤 (Moved 𝓛 cv γ 0 s.views id id) u) $ settle 𝓛 Z (‵ (all_of (set s.views id u)) ⊛ ‵ (half id u)) $ split ! $
          suffices ! _ (upd_i 𝓤 Z) $ show ! (Next s ⟦ learned ⟧) (set s.views id u) $ check ! found.1 $ frame ! $ move ! (0 ∷ 2 ∷ []) $ fjoin ! $
          nothing ! $ fpack ! (then u) (λ _. ftrue) found.2 $ move ! (0 ∷ 1 ∷ []) $ fjoin ! $ fpack ! V seated_with u $ done !)))

-- The machine value of a `Seen`, and what it owns. Assumes `Logic`.

abbrev pub token : Val
token = vstruct (vcons (vstruct vnil) vnil)

module _ (W : RattleType) where
  abbrev pub Token : RattleType
  Token = Struct (shape (seen.the_type W))

  pub token_made : {M : Type 1} {𝓤 : Ura M} (𝓛 : Logic 𝓤) → ent 𝓤 (emp 𝓤) (sem 𝓛 (Token.own_val (tt, tt) (token ∷ [])))
  token_made 𝓛 = makes_shadow 𝓛 (Token.own_val (tt, tt) (token ∷ [])) (λ vss. (tt, ((λ uss. (tt, tt)), tt))) ((vstruct vnil ∷ [], tt), (refl, ((tt, (refl, tt)), tt)))

pub seen_twice : {M : Type 1} {𝓤 : Ura M} (𝓛 : Logic 𝓤) {V : Type 0} (c : V → Gv) (z : TableId) (id : ℕ) (v : V)
    → ent 𝓤 (sem 𝓛 (seen_owns c z id v)) (sep 𝓤 (sem 𝓛 (seen_owns c z id v)) (sem 𝓛 (seen_owns c z id v)))
seen_twice 𝓛 c z id v = 𝓛.shr_bors.shr_bor_dup (age z) (kept c z id v)

pub seen_keyless : {V : Type 0} (c : V → Gv) (z : TableId) (id : ℕ) (v : V) → Keyless (seen_owns c z id v)
seen_keyless c z id v = λ q. entry_keyless halved z.views_name id _

pub lends_twice : {M : Type 1} {𝓤 : Ura M} (𝓛 : Logic 𝓤) (P : Fml) → ent 𝓤 (sem 𝓛 P) (sep 𝓤 (sem 𝓛 P) (sem 𝓛 P)) → (l : Lft) → Lends 𝓛 P (said P) l
lends_twice {𝓤 = 𝓤} 𝓛 P twice l κ ts inc sp = let Back = 𝓛.H.⇛ (sep 𝓤 (𝓛.A.bor κ P) (lfts 𝓛 ts)) in
    qed 𝓛 (‵ (fbor κ P) ∷ raw (lfts 𝓛 ts) ∷ []) ∵ updating ! $ use2 𝓛 (later (‵ P ⊛ raw (wand 𝓤 (sem 𝓛 P) Back))) (𝓛.more.bor_acc_by κ ts P sp) $ await ! tt $ split ! $ use1 𝓛 (‵ P ⊛ ‵ P) twice $ split ! $ move ! (0 ∷ 2 ∷ []) $
    use2 𝓛 (later (‵ (fbor κ P) ⊛ raw (lfts 𝓛 ts))) (apply∗ 𝓤 (sem 𝓛 P) Back) $ await ! tt $ split ! $ drop ! $ move ! (1 ∷ 0 ∷ []) $ now ! $ done !
