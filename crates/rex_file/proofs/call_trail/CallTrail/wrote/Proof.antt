-- An empty body. The borrow is opened, and closed with one more write.
use Rattle.std.proofs.Common.{List, [], ◌∷◌, refl, w64}
use base.Logic.{id⊢}
use base.Fml.{ftrue, flft}
use mir.Syntax.{named}
use mir.Val.{Val, vunit, vptr}
use types.Kit.{‵, ◌⊛◌, ◌$◌, ◌∵◌, !, qed, done, move, keep, drop, use1, split, join, fsplit3, fjoin, fjoin3, feq_i, suffices, frame}
use types.Run.{enter, of_opd, unit_lit, returns}
use types.ByLocal.{alloc_all, pass_all, free_all, look_at, sets}
use denote.RattleType.{owns}
use denote.Builtin.{bool, u8, u64}
use denote.Exit.{yes}
use denote.Plain.{bool_vals, bool_Tells, uint_vals, uint_Tells}
use denote.Ref.{MutRef, mut_vals, mut_Tells}
use denote.Signature.{plain}
use denote.Slice.{ShrSlice, shr_slice_vals, shr_slice_Tells}
use denote.Steps.{opens, closes}
use denote.Triple.Walked.{Stays, walk_of, says, stay_ref, stay_none, stay_none_slice, Goes-ref, Goes-none, Goes-none_slice, ends_at}
use Rattle.std.proofs.raw_atomic.Walks.{proved}
use Rattle.rex_disk.specs.Record.Done.{Wrote}
use Rattle.rex_file.specs.declared.call_trail.CallTrail.{CallTrail}
use Rattle.rex_file.specs.contracts.call_trail.CallTrail.{the_row as R}
use Rattle.rex_file.specs.contracts.call_trail.CallTrail.wrote as f
use Rattle.rex_file.proofs.call_trail.CallTrail.wrote.Statement.{statement}
use Rattle.rex_file.proofs.call_trail.CallTrail.wrote.Code as code

abbrev stayed : Stays f.ended.signature.params f.ended.kept
stayed = (stay_ref (0 ∷ []) tt (plain (λ _. R)), (stay_none (λ _. u64) yes, (stay_none_slice (1 ∷ []) tt (plain (λ _. u8)) yes, (stay_none (λ _. bool) yes, tt))))

pub wrote_spec : {M : Type 1} → statement M
wrote_spec 𝓤 𝓛 𝓜 𝓡 wired =
    let c = f.clauses 𝓛 𝓜.mem 𝓡.returns in let W = walk_of 𝓛 f.ended stayed c in
    proved 𝓛 f.ended stayed c 𝓜 𝓡
    (Goes-ref 𝓛 2 0 tt (plain (λ _. R)), (Goes-none 𝓛 2 (λ _. u64) yes (λ κs x w. refl), (Goes-none_slice 𝓛 2 (1 ∷ []) tt (plain (λ _. u8)) yes, (Goes-none 𝓛 2 (λ _. bool) yes (λ κs x w. refl), tt))))
    f.Key.name code.function (code.unfolded 𝓤 𝓛.H 𝓜 𝓡 wired)
    (λ κs. (mut_vals, (uint_vals w64, (shr_slice_vals, (bool_vals, tt)))))
    (λ κs. (mut_Tells (named 0) κs.0 R, (uint_Tells w64, (shr_slice_Tells (named 1) κs.1.0 u8, (bool_Tells, tt))))) (λ κs qs bounds a _ are.
    let b = a.0.ref_ptr.0 in let o = a.0.ref_ptr.1 in let h = a.0.now in let vs = mut_vals a.0 in
    let y : W.Ghost = ((κs, qs, bounds, a, (vs, (uint_vals w64 a.1.0, (shr_slice_vals a.1.1.0, (bool_vals a.1.1.1.0, tt))))), tt) in
    let more : CallTrail = record { marker = h.marker; done = Wrote a.1.0 a.1.1.0.now a.1.1.1.0 ∷ h.done } in
    qed 𝓛 (((‵ (flft κs.0 qs.0) ⊛ (‵ (flft κs.1.0 qs.1.0) ⊛ ‵ ftrue)) ⊛ ‵ ((MutRef (named 0) κs.0 R).own_val a.0 vs) ⊛ ‵ (owns (u64 ∷ ShrSlice (named 1) κs.1.0 u8 ∷ bool ∷ []) a.1 y.0.4.1)) ∷ ‵ ftrue ∷ []) ∵
    split ! $ split ! $ move ! (2 ∷ []) $ split ! $ fsplit3 ! $ drop ! $ keep ! (0 ∷ 1 ∷ 3 ∷ 2 ∷ 4 ∷ []) $
    -- [two parts of self; its token; the others; their token]
    enter ! _ _ _ _ _ $ alloc_all ! (λ l. pass_all ! refl ((tt, tt), ((tt, record { fits = are.1.0.1 }), ((tt, (tt, (record { fits = are.1.1.0.0.1.0 }, tt))), ((tt, tt), tt)))) $
    opens ! tt R {h = h} b o (λ ws.
    sets ! (of_opd ! (unit_lit !)) refl (tt, tt) $
    move ! (1 ∷ []) $ use1 𝓛 (‵ (R.own_val more ws)) (id⊢ 𝓤 _) $ move ! (1 ∷ 0 ∷ []) $ closes ! tt R more ws b o $
    returns ! (look_at ! 0 refl) $ free_all ! refl $
    suffices ! _ (ends_at 𝓛 f.ended stayed c y vunit tt (more, (tt, (tt, (tt, tt)))) (tt, (tt, (tt, (tt, tt))))) $ says ! refl $
    move ! (2 ∷ 4 ∷ []) $ join ! $ frame ! $
    feq_i ! (List Val) (vptr b o ∷ []) (vptr b o ∷ []) refl $ fjoin3 ! $ fjoin ! $
    feq_i ! (List Val) (vunit ∷ []) (vunit ∷ []) refl $ move ! (1 ∷ 0 ∷ []) $ done !)))
