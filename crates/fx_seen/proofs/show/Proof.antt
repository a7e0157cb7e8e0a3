-- `show` opens the table's invariant for a step of the proof.
use Rattle.atomic_table.proofs.Names.{◌≡◌, ℕ, [], ◌∷◌, refl, sym, a_type, dcons, dnil, named, Val, vptr, inst_fn, SProp, emp, Lft, Fml, ftrue, fsep, flft, List, ‵, raw, ◌⊛◌, later, ◌$◌, ◌∵◌, !, qed, by, move, keep, drop, split, split3, join, fsplit, fsplit3, fjoin, fjoin3, fpick, heard, use0, use1, use3, await, rewrite, feq_i, no_more, and_then, returns, enter, alloc_all, pass_all, free_all, look_at, get, sets, agg, tables, yes, RattleType, owns, types_at, plain, Ptr, block_ptr, nothing, param, bounded, Stays, stay_dropped, walk_of, Goes-dropped, fact, fact_i, Coded, RefOf, mut_vals, mut_Tells, shr_vals, shr_Tells, opens, closes, stay_ref, Goes-ref, unhide, hidden_shr, lent_out, Tuple, shr_bor-open, obor_close, tokens_halve}
use base.Fml.{fex}
use Rattle.atomic_table.proofs.Walks.{proved, leaves}
use Rattle.core.specs.contracts.marker.PhantomData as marker
use Rattle.atomic_table.specs.Table.{Me, Splits}
use Rattle.atomic_table.specs.Seated.{TableId, age, common, mine}
use Rattle.atomic_table.specs.contracts.shared.Shared as table
use Rattle.atomic_table.specs.contracts.shared.Seat as seat
use Rattle.atomic_table.proofs.Fields.{HandData}
use Rattle.fx_seen.specs.Kept.{seen_owns}
use Rattle.fx_seen.specs.contracts.Seen as Seen
use Rattle.fx_seen.proofs.Ghost.{token, Token, token_made, shown, shows, lends}
use Rattle.fx_seen.specs.contracts.show.{ended, clauses}
use Rattle.fx_seen.specs.contracts.show.Key.{name as #self}
use Rattle.fx_seen.proofs.show.Statement.{statement}
use Rattle.fx_seen.proofs.show.Code as code

pub show_spec : {M : Type 1} → statement M
unfolding Rattle.atomic_table.specs.Seated.seal
show_spec 𝓤 𝓛 𝓜 𝓡 wired T U Q P Mv _ _ _ _ _ g d g' d' _ _ =
    let H = 𝓛.H in let 𝓣 = tables 𝓤 H 𝓜 𝓡 𝓡.env in let R : RattleType = param 0 T in let W : RattleType = param 1 U in let X : RattleType = param 2 Q in let Y : RattleType = param 3 P in let En = ended T U Q P Mv g d g' d' in
    let inst = bounded (a_type ∷ a_type ∷ a_type ∷ a_type ∷ a_type ∷ []) (T, (U, (Q, (P, (Mv, tt))))) (dcons d (dcons d' dnil)) in let fn = inst_fn inst code.function in
    let Row : RattleType = table.the_row R W X Y g in let Sr : RattleType = seat.the_row R W in let Nr : RattleType = Seen.the_row W in let D : RattleType = HandData R W X Y g in let self = RefOf (0 ∷ []) tt (plain (λ _. Row)) (λ _. tt) in let sitter = plain (λ _. Sr) in
    let hs : Stays En.signature.params En.kept = (stay_dropped self yes, (stay_ref (1 ∷ []) tt sitter, tt)) in let c = clauses T U Q P Mv g d g' d' 𝓛 𝓜.mem 𝓡.returns in
    proved 𝓛 En hs c 𝓜 𝓡 (Goes-dropped 𝓛 7 self yes (λ κs x f. refl), (Goes-ref 𝓛 7 1 tt sitter, tt)) (#self inst) fn (code.unfolded 𝓤 H 𝓜 𝓡 wired (T, (U, (Q, (P, (Mv, tt))))) d d')
    (λ κs. (shr_vals, (mut_vals, tt))) (λ κs. (shr_Tells (named 0) κs.0 Row, (mut_Tells (named 1) κs.1.0 Sr, tt))) (λ κs qs bounds a gh are.
    let b : ℕ = a.0.ref_ptr.0 in let o : ℕ = a.0.ref_ptr.1 in let κ : Lft = κs.0 in let t : Row.Denot = a.0.now in let w : Ptr = t.words in let p : Ptr = t.slots in let z : TableId = t.table_id in let α : Lft = age z in let cv : Coded U.Denot = W.coded in
    let b' : ℕ = a.1.0.ref_ptr.0 in let o' : ℕ = a.1.0.ref_ptr.1 in let h : Sr.Denot = a.1.0.now in let id : ℕ = h.id in let v : Me T.Denot U.Denot = h.me in let lv : U.Denot = g'.left v.0 in let rv : U.Denot = g'.right v.0 in
    let y : (walk_of 𝓛 En hs c).Ghost = ((κs, qs, bounds, a, (vptr a.0.ref_ptr.0 a.0.ref_ptr.1 ∷ [], (vptr a.1.0.ref_ptr.0 a.1.0.ref_ptr.1 ∷ [], tt))), gh) in let Post : Val → SProp 𝓤 = (walk_of 𝓛 En hs c).post y in
    let Of : Type 0 = h.table_id ≡ z in let May : Type 0 = Splits (g.holds t.key) id v.0 lv rv in
    let others : Fml = fsep (flft κs.1.1.0 qs.1.1.0) (fsep (flft κs.1.1.1.0 qs.1.1.1.0) (fsep (flft κs.1.1.1.1.0 qs.1.1.1.1.0) (fsep (flft κs.1.1.1.1.1.0 qs.1.1.1.1.1.0) (fsep (flft κs.1.1.1.1.1.1.0 qs.1.1.1.1.1.1.0) ftrue)))) in
    qed 𝓛 (((‵ (flft κs.0 qs.0) ⊛ ‵ (flft κs.1.0 qs.1.0) ⊛ ‵ others) ⊛ ‵ (owns (types_at En.signature.params κs) a y.0.4)) ∷ raw (fact 𝓤 _) ∷ raw (fact 𝓤 _) ∷ raw (fact 𝓤 _) ∷ raw (fact 𝓤 _) ∷ raw (fact 𝓤 _) ∷ raw (fact 𝓤 Of) ∷ raw (fact 𝓤 May) ∷ []) ∵
    keep ! (6 ∷ 7 ∷ 0 ∷ []) $ heard ! Of (λ of. heard ! May (λ may. split ! $ split3 ! $ move ! (3 ∷ []) $ fsplit3 ! $ fsplit ! $ move ! (2 ∷ []) $ fsplit3 ! $ keep ! (4 ∷ 6 ∷ 1 ∷ 2 ∷ 7 ∷ 8 ∷ []) $
    enter ! 𝓣.C 𝓣.Λ fn (vptr a.0.ref_ptr.0 a.0.ref_ptr.1 ∷ vptr a.1.0.ref_ptr.0 a.1.0.ref_ptr.1 ∷ []) Post $ alloc_all ! (λ l. pass_all ! refl ((tt, tt), ((tt, tt), tt)) $
    use1 𝓛 (‵ (hidden_shr D κ (w, (p, (tt, tt))) b o) ⊛ ‵ (base.Fml.fhide (table.the_lent R W X Y g t (block_ptr b o) κ))) (lent_out 𝓛 (table.struct R W X Y g) (table.the_codes T.Denot U.Denot Q.Denot P.Denot R.coded W.coded X.coded Y.coded (marker.the_row (Tuple (Y ∷ W ∷ X ∷ []))).coded) (table.the_heap R W X Y g) (table.the_lent R W X Y g) κ t b o) $
    split ! $ drop ! $ unhide ! $ fsplit ! $
    -- [the table's lifetime lasts; what all know of the table; the token of κ; the seat; its token;
    -- the other tokens]
    move ! (0 ∷ 2 ∷ []) $ shr_bor-open ! tt (tokens_halve 𝓛 α) (λ s. move ! (3 ∷ 4 ∷ 5 ∷ []) $
    opens ! tt Sr b' o' (λ ts. move ! (1 ∷ []) $ fsplit ! $ rewrite ! 1 (λ (x : TableId). ‵ (mine R cv.code x id v)) of refl $
    -- [the seat's fields; what it owns; its cell, in four entries; the open loan; the table's
    -- token; what all know; the other tokens]
    move ! (8 ∷ 7 ∷ 1 ∷ []) $ use3 𝓛 (later (‵ (fex ℕ (shown 𝓛 R cv (g.holds t.key) w p z id v lv rv)) ⊛ ‵ (flft α s))) (shows 𝓛 R cv (g.holds t.key) w p z id v lv rv s may) $ await ! tt $ split ! $
    -- [shown; the table's token; the seat's fields; its cell, in four; the open loan; the other
    -- tokens]
    move ! (7 ∷ 1 ∷ []) $ obor_close ! tt $ drop ! $ move ! (1 ∷ []) $ fpick ! (λ j. fsplit ! $
    use1 𝓛 (later (‵ (seen_owns cv.code z j rv))) (lends 𝓛 R cv (g.holds t.key) w p z j rv) $ await ! tt $
    -- [the view shown; the seat; the token of κ; the seat's fields; its cell, in four; the other
    -- tokens]
    let h' : Sr.Denot = record { marker = h.marker; table_id = z; id = id; me = (lv, v.1) } in let r : Nr.Denot = record { marker = record {}; table_id = z; id = j; view = rv } in
    let Same : Type 0 = z ≡ h.table_id in let Id : Type 0 = id ≡ id in let Me' : Type 0 = h'.me ≡ h'.me in let View : Type 0 = rv ≡ rv in
    use0 𝓛 (‵ ((Token W).own_val (tt, tt) (token ∷ []))) (token_made W 𝓛) $ fjoin ! $ sets ! (agg ! (no_more !)) refl (tt, tt) $ sets ! (agg ! (and_then ! (get ! refl) (no_more !))) refl (tt, (tt, tt)) $
    move ! (3 ∷ 1 ∷ []) $ fjoin ! $ move ! (3 ∷ 0 ∷ 4 ∷ 5 ∷ 6 ∷ []) $ closes ! tt Sr h' ts b' o' $ feq_i ! (List Val) (vptr b' o' ∷ []) (vptr b' o' ∷ []) refl $ fjoin3 ! $
    nothing ! $ move ! (1 ∷ 0 ∷ []) $ fjoin ! $ nothing ! $ fjoin ! $
    -- [what is left of the parameters; the seat's token; the result; the token of κ; the other
    -- tokens]
    move ! (1 ∷ 4 ∷ []) $ join ! $ move ! (3 ∷ 0 ∷ []) $ join ! $
    use0 𝓛 (raw (fact 𝓤 View)) (fact_i 𝓤 View (emp 𝓤) refl) $ use0 𝓛 (raw (fact 𝓤 Same)) (fact_i 𝓤 Same (emp 𝓤) (sym of)) $ join ! $ use0 𝓛 (raw (fact 𝓤 Me')) (fact_i 𝓤 Me' (emp 𝓤) refl) $ join ! $
    use0 𝓛 (raw (fact 𝓤 Id)) (fact_i 𝓤 Id (emp 𝓤) refl) $ join ! $ use0 𝓛 (raw (fact 𝓤 Same)) (fact_i 𝓤 Same (emp 𝓤) (sym of)) $ join ! $
    returns ! (look_at ! 0 refl) $ free_all ! refl $ keep ! (1 ∷ 2 ∷ 3 ∷ 0 ∷ []) $ by ! (leaves 𝓛 En hs c y token r (tt, (h', tt)) (tt, (tt, tt))))))))))
