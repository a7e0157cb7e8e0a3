-- `learn` opens the shown view and the table's invariant for a step of the proof.
use Rattle.atomic_table.proofs.Names.{◌≡◌, ℕ, [], ◌∷◌, refl, sym, a_type, dcons, dnil, named, Val, vunit, vptr, inst_fn, SProp, emp, Lft, Fml, ftrue, fsep, flft, List, ‵, raw, ◌⊛◌, later, ◌$◌, ◌∵◌, !, qed, by, move, keep, drop, split, split3, join, fsplit, fsplit3, fjoin, fjoin3, fpick, heard, use0, use1, use2, use3, await, rewrite, feq_i, unit_lit, of_opd, returns, enter, alloc_all, pass_all, free_all, look_at, sets, tables, yes, RattleType, owns, types_at, plain, Ptr, block_ptr, nothing, param, bounded, Stays, stay_dropped, walk_of, Goes-dropped, fact, fact_i, Coded, RefOf, mut_vals, mut_Tells, shr_vals, shr_Tells, opens, closes, stay_ref, Goes-ref, unhide, hidden_shr, lent_out, Tuple, shr_bor-open, obor_close, tokens_halve}
use base.Fml.{fex}
use base.Share
use Rattle.atomic_table.proofs.Walks.{proved, leaves}
use Rattle.core.specs.contracts.marker.PhantomData as marker
use Rattle.atomic_table.specs.Table.{Me}
use Rattle.atomic_table.specs.Seated.{TableId, age, common, mine}
use Rattle.atomic_table.specs.contracts.shared.Shared as table
use Rattle.atomic_table.specs.contracts.shared.Seat as seat
use Rattle.atomic_table.proofs.Fields.{HandData}
use Rattle.fx_seen.specs.Kept.{seen_owns, MayLearn}
use Rattle.fx_seen.specs.contracts.Seen as Seen
use Rattle.fx_seen.proofs.Ghost.{Token, view_halves, learned, learns}
use Rattle.fx_seen.specs.contracts.learn.{ended, clauses}
use Rattle.fx_seen.specs.contracts.learn.Key.{name as #self}
use Rattle.fx_seen.proofs.learn.Statement.{statement}
use Rattle.fx_seen.proofs.learn.Code as code

pub learn_spec : {M : Type 1} → statement M
unfolding Rattle.atomic_table.specs.Seated.seal
learn_spec 𝓤 𝓛 𝓜 𝓡 wired T U Q P Mv _ _ _ _ _ g d g' d' _ _ =
    let H = 𝓛.H in let 𝓣 = tables 𝓤 H 𝓜 𝓡 𝓡.env in let R : RattleType = param 0 T in let W : RattleType = param 1 U in let X : RattleType = param 2 Q in let Y : RattleType = param 3 P in let En = ended T U Q P Mv g d g' d' in
    let inst = bounded (a_type ∷ a_type ∷ a_type ∷ a_type ∷ a_type ∷ []) (T, (U, (Q, (P, (Mv, tt))))) (dcons d (dcons d' dnil)) in let fn = inst_fn inst code.function in
    let Row : RattleType = table.the_row R W X Y g in let Sr : RattleType = seat.the_row R W in let Nr : RattleType = Seen.the_row W in let D : RattleType = HandData R W X Y g in let self = RefOf (0 ∷ []) tt (plain (λ _. Row)) (λ _. tt) in let sitter = plain (λ _. Sr) in
    let known = RefOf (2 ∷ []) tt (plain (λ _. Nr)) (λ _. tt) in
    let hs : Stays En.signature.params En.kept = (stay_dropped self yes, (stay_ref (1 ∷ []) tt sitter, (stay_dropped known yes, tt))) in let c = clauses T U Q P Mv g d g' d' 𝓛 𝓜.mem 𝓡.returns in
    proved 𝓛 En hs c 𝓜 𝓡 (Goes-dropped 𝓛 8 self yes (λ κs x f. refl), (Goes-ref 𝓛 8 1 tt sitter, (Goes-dropped 𝓛 8 known yes (λ κs x f. refl), tt))) (#self inst) fn (code.unfolded 𝓤 H 𝓜 𝓡 wired (T, (U, (Q, (P, (Mv, tt))))) d d')
    (λ κs. (shr_vals, (mut_vals, (shr_vals, tt)))) (λ κs. (shr_Tells (named 0) κs.0 Row, (mut_Tells (named 1) κs.1.0 Sr, (shr_Tells (named 2) κs.1.1.0 Nr, tt)))) (λ κs qs bounds a gh are.
    let b : ℕ = a.0.ref_ptr.0 in let o : ℕ = a.0.ref_ptr.1 in let κ : Lft = κs.0 in let t : Row.Denot = a.0.now in let w : Ptr = t.words in let p : Ptr = t.slots in let z : TableId = t.table_id in let α : Lft = age z in let cv : Coded U.Denot = W.coded in
    let b' : ℕ = a.1.0.ref_ptr.0 in let o' : ℕ = a.1.0.ref_ptr.1 in let h : Sr.Denot = a.1.0.now in let id : ℕ = h.id in let v : Me T.Denot U.Denot = h.me in
    let b₂ : ℕ = a.1.1.0.ref_ptr.0 in let o₂ : ℕ = a.1.1.0.ref_ptr.1 in let n : Nr.Denot = a.1.1.0.now in let j : ℕ = n.id in let x : U.Denot = n.view in let then : U.Denot → Type 0 = g'.then v.0 x in
    let y : (walk_of 𝓛 En hs c).Ghost = ((κs, qs, bounds, a, (vptr a.0.ref_ptr.0 a.0.ref_ptr.1 ∷ [], (vptr a.1.0.ref_ptr.0 a.1.0.ref_ptr.1 ∷ [], (vptr a.1.1.0.ref_ptr.0 a.1.1.0.ref_ptr.1 ∷ [], tt)))), gh) in let Post : Val → SProp 𝓤 = (walk_of 𝓛 En hs c).post y in
    let Of : Type 0 = h.table_id ≡ z in let Here : Type 0 = n.table_id ≡ z in let May : Type 0 = MayLearn (g.holds t.key) id v.0 x then in
    let others : Fml = fsep (flft κs.1.1.1.0 qs.1.1.1.0) (fsep (flft κs.1.1.1.1.0 qs.1.1.1.1.0) (fsep (flft κs.1.1.1.1.1.0 qs.1.1.1.1.1.0) (fsep (flft κs.1.1.1.1.1.1.0 qs.1.1.1.1.1.1.0) (fsep (flft κs.1.1.1.1.1.1.1.0 qs.1.1.1.1.1.1.1.0) ftrue)))) in
    qed 𝓛 (((‵ (flft κs.0 qs.0) ⊛ ‵ (flft κs.1.0 qs.1.0) ⊛ ‵ (flft κs.1.1.0 qs.1.1.0) ⊛ ‵ others) ⊛ ‵ (owns (types_at En.signature.params κs) a y.0.4)) ∷ raw (fact 𝓤 _) ∷ raw (fact 𝓤 _) ∷ raw (fact 𝓤 _) ∷ raw (fact 𝓤 _) ∷ raw (fact 𝓤 _) ∷ raw (fact 𝓤 Of) ∷ raw (fact 𝓤 Here) ∷ raw (fact 𝓤 May) ∷ []) ∵
    keep ! (6 ∷ 7 ∷ 8 ∷ 0 ∷ []) $ heard ! Of (λ of. heard ! Here (λ here. heard ! May (λ may. split ! $ split3 ! $ move ! (2 ∷ []) $ split ! $ move ! (4 ∷ []) $ fsplit3 ! $ fsplit ! $ move ! (2 ∷ []) $ fsplit3 ! $ move ! (5 ∷ []) $ fsplit ! $ fsplit ! $ keep ! (7 ∷ 10 ∷ 4 ∷ 5 ∷ 11 ∷ 9 ∷ 1 ∷ 8 ∷ []) $
    -- [the table; its token; the seat, in two; its token; the other tokens; what was shown; its
    -- token]
    enter ! 𝓣.C 𝓣.Λ fn (vptr a.0.ref_ptr.0 a.0.ref_ptr.1 ∷ vptr a.1.0.ref_ptr.0 a.1.0.ref_ptr.1 ∷ vptr a.1.1.0.ref_ptr.0 a.1.1.0.ref_ptr.1 ∷ []) Post $ alloc_all ! (λ l. pass_all ! refl ((tt, tt), ((tt, tt), ((tt, tt), tt))) $
    use1 𝓛 (‵ (hidden_shr D κ (w, (p, (tt, tt))) b o) ⊛ ‵ (base.Fml.fhide (table.the_lent R W X Y g t (block_ptr b o) κ))) (lent_out 𝓛 (table.struct R W X Y g) (table.the_codes T.Denot U.Denot Q.Denot P.Denot R.coded W.coded X.coded Y.coded (marker.the_row (Tuple (Y ∷ W ∷ X ∷ []))).coded) (table.the_heap R W X Y g) (table.the_lent R W X Y g) κ t b o) $
    split ! $ drop ! $ unhide ! $ fsplit ! $
    -- [the table's lifetime lasts; what all know of the table; its token; the seat, in two; its
    -- token; the other tokens; what was shown; its token]
    move ! (7 ∷ []) $ use1 𝓛 (‵ (hidden_shr (Token W) κs.1.1.0 (tt, tt) b₂ o₂) ⊛ ‵ (base.Fml.fhide (seen_owns cv.code n.table_id j x))) (lent_out 𝓛 (Seen.struct W) (Seen.the_codes U.Denot W.coded (marker.the_row W).coded) (Seen.the_heap W) (Seen.the_lent W) κs.1.1.0 n b₂ o₂) $
    split ! $ drop ! $ unhide ! $ rewrite ! 0 (λ (i : TableId). ‵ (seen_owns cv.code i j x)) here refl $
    move ! (1 ∷ 3 ∷ []) $ shr_bor-open ! tt (tokens_halve 𝓛 α) (λ s. move ! (1 ∷ []) $ use1 𝓛 (‵ (flft α (Share.left s)) ⊛ ‵ (flft α (Share.right s))) (𝓛.lfts.lft_split α s) $ split ! $
    -- [two parts of the table's token; the open loan of it; what was shown; what all know; the
    -- seat, in two; its token; the other tokens; the token of what was shown]
    move ! (3 ∷ 0 ∷ []) $ shr_bor-open ! tt (view_halves 𝓛 cv z.views_name j x) (λ q.
    -- [the open loan of what was shown; a share of that; the other part of the table's token; the
    -- open loan of the token; what all know; the seat, in two; its token; the other tokens; the
    -- token of what was shown]
    move ! (5 ∷ 6 ∷ 7 ∷ []) $ opens ! tt Sr b' o' (λ ts. move ! (1 ∷ []) $ fsplit ! $ rewrite ! 1 (λ (i : TableId). ‵ (mine R cv.code i id v)) of refl $
    -- [the seat's fields; what it owns; its cell, in four; the open loan of what was shown; a share
    -- of that; the part of the table's token; the open loan; what all know; the other tokens; ..]
    move ! (1 ∷ 7 ∷ []) $ fjoin ! $ move ! (9 ∷ 7 ∷ 0 ∷ []) $
    use3 𝓛 (later (‵ (learned 𝓛 R cv (g.holds t.key) w p z id v j x q then) ⊛ ‵ (flft α (Share.right s)))) (learns 𝓛 R cv (g.holds t.key) w p z id v j x q then (Share.right s) may) $ await ! tt $ split ! $ fsplit ! $
    -- [what was learned; a share of what was shown; the part of the table's token; the seat's
    -- fields; its cell, in four; the two open loans; the other tokens; the token of what was shown]
    move ! (8 ∷ 1 ∷ []) $ obor_close ! tt $ drop ! $ move ! (0 ∷ 2 ∷ []) $ use2 𝓛 (‵ (flft α s)) (𝓛.lfts.lft_join α s) $
    move ! (7 ∷ 0 ∷ []) $ obor_close ! tt $ drop ! $ move ! (1 ∷ []) $ fpick ! (λ u. fsplit ! $ fpick ! (λ so. drop ! $
    -- [the seat; the token of κ; the seat's fields; its cell, in four; the other tokens; the token
    -- of what was shown]
    let h' : Sr.Denot = record { marker = h.marker; table_id = z; id = id; me = (u, v.1) } in
    move ! (2 ∷ 0 ∷ []) $ fjoin ! $ move ! (2 ∷ 0 ∷ 3 ∷ 4 ∷ 5 ∷ []) $ closes ! tt Sr h' ts b' o' $ feq_i ! (List Val) (vptr b' o' ∷ []) (vptr b' o' ∷ []) refl $ fjoin3 ! $
    sets ! (of_opd ! (unit_lit !)) refl (tt, tt) $ nothing ! $ nothing ! $ fjoin ! $ move ! (1 ∷ 0 ∷ []) $ fjoin ! $ nothing ! $ fjoin ! $
    -- [what is left of the parameters; the seat's token; that of the table; the other tokens; that
    -- of what was shown]
    move ! (4 ∷ 3 ∷ []) $ join ! $ move ! (2 ∷ 0 ∷ []) $ join ! $ move ! (2 ∷ 0 ∷ []) $ join ! $
    use0 𝓛 (raw (fact 𝓤 (then u))) (fact_i 𝓤 (then u) (emp 𝓤) so) $ use0 𝓛 (raw (fact 𝓤 (v.1 ≡ v.1))) (fact_i 𝓤 (v.1 ≡ v.1) (emp 𝓤) refl) $ join ! $
    use0 𝓛 (raw (fact 𝓤 (id ≡ id))) (fact_i 𝓤 (id ≡ id) (emp 𝓤) refl) $ join ! $ use0 𝓛 (raw (fact 𝓤 (z ≡ h.table_id))) (fact_i 𝓤 (z ≡ h.table_id) (emp 𝓤) (sym of)) $ join ! $ feq_i ! (List Val) (vunit ∷ []) (vunit ∷ []) refl $
    returns ! (look_at ! 0 refl) $ free_all ! refl $ keep ! (2 ∷ 3 ∷ 0 ∷ 1 ∷ []) $ by ! (leaves 𝓛 En hs c y vunit tt (tt, (h', (tt, tt))) (tt, (tt, (tt, tt))))))))))))))
