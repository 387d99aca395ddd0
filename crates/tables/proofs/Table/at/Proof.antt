-- `at` hands out one element of the array, and the table follows it, for every T.
use Rattle.std.proofs.Common.{◌≡◌, ℕ, zero, suc, ◌+◌, ◌*◌, ◌^◌, ◌<◌, ◌≤◌, List, [], ◌∷◌, length, get_or, set, sym, refl, ap, ◌∙◌, subst, le_of_suc-le-suc, not-suc-le-zero, mul-le-mul_right, arith, length-set, w64}
use seplogic.Ra.Ura.{Ura}
use mir.Syntax.{Fn, a_type, named, ty_array}
use mir.Val.{Val, vint, vptr}
use mir.MapTy.{inst_fn}
use base.Fraction.{full_share}
use base.Logic.{SProp, ent, sep, ex, wand, guard, via, fst∗, snd∗, all_e, apply∗}
use base.Fml.{Lft, GName, Share, Fml, fsep, feq, ftrue, flft, fobs, fbor}
use prog.Memory.{Memory, align, size}
use prog.Routine.{Routine}
use prog.Wp.{Calls, Loops, WpFn, Tables}
use types.Logic.{Logic, sem}
use contract.Monad.{Fun, fact, fact_use}
use contract.BorrowLft.{◌⊑◌}
use contract.Lifetimes.{AllOutlive}
use contract.Running.{tables, tables_of}
use sound.WpLaws.{WpFn-mono}
use types.Kit.{‵, raw, ◌⊛◌, some, given, later, ◌$◌, ◌∵◌, !, qed, by, move, keep, use1, use2, use3, drop, split, split3, join, pick, learn, check, show, rewrite, group, await, updating, now as at_once, fsplit, fsplit3, fjoin, feq_l, feq_i, suffices, frame, done}
use types.Run.{size_lit, stop, fld, addr, bin, returns, enter}
use types.ByLocal.{alloc_all, pass_all, free_all, look_at, get, through, sets, is}
use types.SemTy.{Body as Borrowed}
use types.Mut.{open_ref}
use denote.Exit.{yes, no}
use denote.RattleType.{RattleType, owns}
use denote.Memory.{part_at, mem, shares}
use denote.Array.{Array}
use denote.ArrayMemory.{Array-apart, Array-whole}
use denote.Index.{place, place_is, others, takes, puts, row}
use denote.Plain.{uint_vals, uint_Tells}
use denote.Ref.{MutRef, mut_vals, mut_Tells}
use denote.Builtin.{usize, RefMutOf}
use denote.Signature.{plain}
use denote.Steps.{nothing}
use denote.Param.{layout, layouts, param}
use denote.Param.Laws.{Laws, param_laws, array_laws}
use denote.Follow.{follows, lends_Part}
use denote.Struct.Struct.{Struct}
use denote.Struct.Declared.{shape}
use denote.Struct.Members.{Member}
use denote.Struct.CellSteps.{BackTo, only_out, first_at}
use denote.Triple.Clauses.{Clauses, closing}
use denote.Triple.Entry.{on_entry}
use denote.Triple.Spec.{Meets, triple_of}
use denote.Triple.Table.{entered}
use denote.Triple.Walked.{says, Stays, stay_dropped, walk_of, ends_at, walked, walk_Meets, Goes-spent_ref, Goes-dropped}
use borrow.Struct.Lend.{own_same}
use Rattle.tables.specs.declared.Table.{Table}
use Rattle.tables.specs.contracts.Table.{the_type, the_row}
use Rattle.tables.specs.contracts.Table.at.{ended, clauses}
use Rattle.tables.specs.contracts.Table.at.Key.{name as #self}
use Rattle.tables.proofs.Table.at.Statement as stated
use Rattle.tables.proofs.Table.at.Code as code

-- ---- numbers and lists
within : (x y z n : ℕ) → (y + 8 * z) + x < n → 8 * z < n
within x y z n h = omega arith

times_below : (i s : ℕ) → i < 8 → 8 * s < 2 ^ 63 → i * s < 2 ^ 64
times_below i s li h = let le : i ≤ 8 = omega arith in let m : i * s ≤ 8 * s = mul-le-mul_right s le in omega arith

hd : {X : Type 0} (xs : List X) → 0 < length xs → X
hd [] h = absurd (not-suc-le-zero h)
hd (x ∷ xs) h = x

any_default : {X : Type 0} (xs : List X) (i : ℕ) (d e : X) → i < length xs → get_or xs i d ≡ get_or xs i e
any_default [] i d e h = absurd (not-suc-le-zero h)
any_default (x ∷ xs) zero d e h = refl
any_default (x ∷ xs) (suc i) d e h = any_default xs i d e (le_of_suc-le-suc h)

module _ (Y : RattleType) where
  abbrev R : RattleType
  R = param 0 Y

  abbrev Tb : RattleType
  Tb = the_row R

  abbrev m : Member
  m = record { row = Array R 8; ty = ty_array (layout Y) 8 }

  abbrev function : Fn
  function = inst_fn (layouts (a_type ∷ []) (Y, tt)) code.function

  abbrev stayed : Stays (ended Y).signature.params (ended Y).kept
  stayed = (stay_dropped (RefMutOf (0 ∷ []) tt (plain (λ _. Tb)) (λ _. tt)) no, (stay_dropped (plain (λ _. usize)) yes, tt))

  abbrev s : ℕ
  s = size (layout Y)

module _ (Y : RattleType) (L : Laws Y) {M : Type 1} {𝓤 : Ura M} (𝓛 : Logic 𝓤) where
  open 𝓛 use {H, A}

  abbrev X : Type 0
  X = Y.Denot

  abbrev S : RattleType
  S = Struct (shape (the_type (R Y)))

  abbrev Back : ℕ → ℕ → SProp 𝓤
  Back b o = BackTo 𝓛 (the_type (R Y)).name [] (R Y ∷ []) (m Y) (λ y. sem 𝓛 (part_at S full_share (y, tt) b o)) b o

  -- a table in memory is its array, and back at any list
  opens : (h : Table X) (b o : ℕ) → ent 𝓤 (sem 𝓛 (part_at (Tb Y) full_share h b o)) (sep 𝓤 (sem 𝓛 (part_at (Array (R Y) 8) full_share h.items b o)) (Back b o))
  opens h b o = subst (λ (P : Fml). ent 𝓤 (sem 𝓛 P) (sep 𝓤 (sem 𝓛 (part_at (Array (R Y) 8) full_share h.items b o)) (Back b o))) (sym (own_same (the_type (R Y)) h b o))
      (only_out 𝓛 (the_type (R Y)).name [] (R Y ∷ []) (m Y) ((array_laws (R Y) (param_laws 0 Y L) 8).lawful 𝓛) b o h.items)

  shuts : (xs : List X) (b o : ℕ) → ent 𝓤 (sep 𝓤 (sem 𝓛 (part_at (Array (R Y) 8) full_share xs b o)) (Back b o)) (sem 𝓛 (part_at (Tb Y) full_share (record { items = xs }) b o))
  shuts xs b o = subst (λ (P : Fml). ent 𝓤 (sep 𝓤 (sem 𝓛 (part_at (Array (R Y) 8) full_share xs b o)) (Back b o)) (sem 𝓛 P)) (sym (own_same (the_type (R Y)) (record { items = xs }) b o))
      (qed 𝓛 (‵ (part_at (Array (R Y) 8) full_share xs b o) ∷ raw (Back b o) ∷ []) ∵ move ! (1 ∷ []) $
      use1 𝓛 (raw (wand 𝓤 (sem 𝓛 (part_at (Array (R Y) 8) full_share xs b o)) (sem 𝓛 (part_at S full_share (xs, tt) b o))))
      (all_e 𝓤 (λ (y : List X). wand 𝓤 (sem 𝓛 (part_at (Array (R Y) 8) full_share y b o)) (sem 𝓛 (part_at S full_share (y, tt) b o))) xs) $ move ! (1 ∷ 0 ∷ []) $
      by ! (apply∗ 𝓤 (sem 𝓛 (part_at (Array (R Y) 8) full_share xs b o)) (sem 𝓛 (part_at S full_share (xs, tt) b o))))

  apart : (xs : List X) (b o : ℕ) → ent 𝓤 (sem 𝓛 (part_at (Array (R Y) 8) full_share xs b o)) (guard 𝓤 (length xs ≡ 8) (sem 𝓛 (row (R Y) full_share xs b o)))
  apart xs b o = qed 𝓛 (‵ (part_at (Array (R Y) 8) full_share xs b o) ∷ []) ∵ use1 𝓛 (‵ (fsep (feq ℕ (length xs) 8) (row (R Y) full_share xs b o))) (Array-apart 𝓛 (R Y) full_share tt 8 xs b o) $ fsplit ! $ feq_l ! (λ l. check ! l $ done !)

  whole : (xs : List X) (b o : ℕ) → length xs ≡ 8 → ent 𝓤 (sem 𝓛 (row (R Y) full_share xs b o)) (sem 𝓛 (part_at (Array (R Y) 8) full_share xs b o))
  whole xs b o l = qed 𝓛 (‵ (row (R Y) full_share xs b o) ∷ []) ∵ feq_i ! ℕ (length xs) 8 l $ fjoin ! $ by ! (Array-whole 𝓛 (R Y) full_share 8 xs b o)

  module _ (κ : Lft) (q : Share) (b o : ℕ) (γ : GName) (h : Table X) (i : ℕ) (li : i < 8) where
    abbrev put : X → Table X
    put w = record { items = set h.items i w }

    abbrev at : ℕ
    at = i * s Y + o

    abbrev Rest : SProp 𝓤
    Rest = sep 𝓤 (sem 𝓛 (others (shares (R Y)) full_share h.items i b o)) (Back b o)

    back : length h.items ≡ 8 → (w : X) → ent 𝓤 (sep 𝓤 (sem 𝓛 ((mem (R Y)).own_at w b at)) Rest) (sem 𝓛 ((mem (Tb Y)).own_at (put w) b o))
    back l w = qed 𝓛 (‵ (part_at (R Y) full_share w b at) ∷ (‵ (others (shares (R Y)) full_share h.items i b o) ⊛ raw (Back b o)) ∷ []) ∵ move ! (1 ∷ []) $ split ! $ move ! (2 ∷ 0 ∷ []) $
        rewrite ! 0 (λ (k : ℕ). ‵ (part_at (R Y) full_share w b k)) (sym (place_is (s Y) o i)) refl $
        use2 𝓛 (‵ (row (R Y) full_share (set h.items i w) b o)) (puts (shares (R Y)) full_share 𝓛 h.items i w b o (subst (λ (k : ℕ). i < k) (sym l) li)) $
        use1 𝓛 (‵ (part_at (Array (R Y) 8) full_share (set h.items i w) b o)) (whole (set h.items i w) b o (length-set h.items i w ∙ l)) $ by ! (shuts (set h.items i w) b o)

    abbrev Got : X × GName → SProp 𝓤
    Got t = guard 𝓤 ((d : X) → t.0 ≡ get_or h.items i d) (sep 𝓤 (sem 𝓛 ((MutRef (named 0) κ (R Y)).own_val (record { ref_ptr = (b, at); ghost_name = t.1; now = t.0 }) (vptr b at ∷ []))) (sep 𝓤 (A.lft κ q) (sem 𝓛 (follows (Tb Y) (R Y) γ t.1 put))))

    lends : ent 𝓤 (sep 𝓤 (A.obs γ ((Tb Y).coded.code h)) (sep 𝓤 (A.bor κ (Borrowed (mem (Tb Y)) b o γ)) (A.lft κ q))) (H.⇛ (ex 𝓤 Got))
    lends = qed 𝓛 (‵ (fobs γ ((Tb Y).coded.code h)) ∷ ‵ (fbor κ (Borrowed (mem (Tb Y)) b o γ)) ∷ ‵ (flft κ q) ∷ []) ∵ updating ! $ open_ref ! tt (mem (Tb Y)) {x = h} {b = b} {o = o} $
        use1 𝓛 (‵ (part_at (Array (R Y) 8) full_share h.items b o) ⊛ raw (Back b o)) (opens h b o) $ split ! $
        use1 𝓛 (given (length h.items ≡ 8) (‵ (row (R Y) full_share h.items b o))) (apart h.items b o) $ learn ! (λ l.
        let lt : i < length h.items = subst (λ (k : ℕ). i < k) (sym l) li in
        let d : X = hd h.items (subst (λ (k : ℕ). 0 < k) (sym l) (omega arith)) in
        let x : X = get_or h.items i d in
        use1 𝓛 (‵ (part_at (R Y) full_share x b (place (s Y) o i)) ⊛ ‵ (others (shares (R Y)) full_share h.items i b o)) (takes (shares (R Y)) full_share 𝓛 h.items i d b o lt) $ split ! $
        rewrite ! 0 (λ (k : ℕ). ‵ (part_at (R Y) full_share x b k)) (place_is (s Y) o i) refl $ move ! (1 ∷ 2 ∷ []) $ join ! $ move ! (2 ∷ 3 ∷ 4 ∷ 1 ∷ 0 ∷ []) $ group ! 5 $
        use1 𝓛 (later (some (λ (γ' : GName). ‵ ((MutRef (named 0) κ (R Y)).own_val (record { ref_ptr = (b, at); ghost_name = γ'; now = x }) (vptr b at ∷ [])) ⊛ ‵ (flft κ q) ⊛ ‵ (follows (Tb Y) (R Y) γ γ' put))))
        (lends_Part 𝓛 (Tb Y) (R Y) put (named 0) κ q b o b at γ Rest (back l) ((Tb Y).coded.code h) ((Tb Y).coded.code h) x) $ await ! tt $ pick ! (λ γ'.
        at_once ! $ show ! Got (x, γ') $ check ! (λ e. any_default h.items i d e lt) $ done !))

module _ (Y : RattleType) (L : Laws Y) {M : Type 1} {𝓤 : Ura M} (𝓛 : Logic 𝓤) (memory : Memory → SProp 𝓤) (run : Routine → Fun 𝓤) where
  open 𝓛 use {H, A}

  abbrev held : Clauses 𝓤 (ended Y)
  held = clauses Y 𝓛 memory run

  module _ (κ κ' : Lft) (q q' : Share) (bounds : AllOutlive 2 (ended Y).signature.outlives (κ, (κ', tt))) (b o : ℕ) (γ : GName) (h : Table Y.Denot) (i : ℕ) (fi : i < 2 ^ 64) where
    abbrev bound : (walk_of 𝓛 (ended Y) (stayed Y) held).Ghost
    bound = (((κ, (κ', tt)), (q, (q', tt)), bounds, (record { ref_ptr = (b, o); ghost_name = γ; now = h }, (i, tt)), (vptr b o ∷ [], (vint w64 i ∷ [], tt))), tt)

    abbrev Post : Val → SProp 𝓤
    Post = (walk_of 𝓛 (ended Y) (stayed Y) held).post bound

    abbrev to : ℕ
    to = i * s Y + o

    abbrev filled : Y.Denot → Table Y.Denot
    filled w = record { items = set h.items i w }

    exits : (x : Y.Denot) → ((d : Y.Denot) → x ≡ get_or h.items i d) → (γ' : GName)
        → ent 𝓤 (sep 𝓤 (sem 𝓛 ((MutRef (named 0) κ (R Y)).own_val (record { ref_ptr = (b, to); ghost_name = γ'; now = x }) (vptr b to ∷ []))) (sep 𝓤 (A.lft κ q) (sep 𝓤 (sem 𝓛 (follows (Tb Y) (R Y) γ γ' filled)) (A.lft κ' q')))) (Post (vptr b to))
    exits x e γ' =
        qed 𝓛 (‵ ((MutRef (named 0) κ (R Y)).own_val (record { ref_ptr = (b, to); ghost_name = γ'; now = x }) (vptr b to ∷ [])) ∷ ‵ (flft κ q) ∷ ‵ (follows (Tb Y) (R Y) γ γ' filled) ∷ ‵ (flft κ' q') ∷ []) ∵
        suffices ! _ (ends_at 𝓛 (ended Y) (stayed Y) held bound (vptr b to) (record { ref_ptr = (b, to); ghost_name = γ'; now = x }) (tt, (tt, tt)) (tt, (tt, tt))) $
        nothing ! $ nothing ! $ fjoin ! $ nothing ! $ fjoin ! $ join ! $ nothing ! $ move ! (4 ∷ 0 ∷ []) $ join ! $ move ! (2 ∷ 0 ∷ []) $ join ! $ join ! $ frame ! $ says ! e $ done !

    module _ (C : Calls 𝓤 H) (Λ : Loops 𝓤 H) where
      walk : i < 8 → 8 * s Y < 2 ^ 63 → ent 𝓤 (on_entry 𝓛 (ended Y).signature (κ, (κ', tt)) (q, (q', tt)) (record { ref_ptr = (b, o); ghost_name = γ; now = h }, (i, tt)) (vptr b o ∷ [], (vint w64 i ∷ [], tt))) (WpFn 𝓤 H C Λ (function Y) (vptr b o ∷ vint w64 i ∷ []) Post)
      walk li fit =
          let tiny : s Y < 2 ^ 64 = omega arith in
          let fmi : i * s Y < 2 ^ 64 = times_below i (s Y) li fit in
          qed 𝓛 ((‵ (flft κ q) ⊛ ‵ (flft κ' q') ⊛ ‵ ftrue) ∷ ‵ (owns (MutRef (named 0) κ (Tb Y) ∷ usize ∷ []) (record { ref_ptr = (b, o); ghost_name = γ; now = h }, (i, tt)) (vptr b o ∷ [], (vint w64 i ∷ [], tt))) ∷ []) ∵
          enter ! C Λ (function Y) (vptr b o ∷ vint w64 i ∷ []) _ $
          alloc_all ! (λ l. pass_all ! refl ((tt, tt), ((tt, record { fits = fi }), tt)) $
          move ! (1 ∷ []) $ fsplit ! $ fsplit3 ! $ drop ! $ move ! (3 ∷ []) $ split3 ! $ move ! (3 ∷ 4 ∷ 0 ∷ []) $
          use3 𝓛 (later (some (λ (t : Y.Denot × GName). given ((d : Y.Denot) → t.0 ≡ get_or h.items i d) (‵ ((MutRef (named 0) κ (R Y)).own_val (record { ref_ptr = (b, to); ghost_name = t.1; now = t.0 }) (vptr b to ∷ [])) ⊛ ‵ (flft κ q) ⊛ ‵ (follows (Tb Y) (R Y) γ t.1 filled)))))
          (lends Y L 𝓛 κ q b o γ h i li) $ await ! tt $ pick ! (λ t. learn ! (λ e. split3 ! $
          sets ! (bin ! (get ! refl) (size_lit ! (record { fits = tiny })) (record { fits = fmi })) refl (tt, record { fits = fmi }) $
          sets ! (is ! (addr ! (through ! refl (fld ! refl (stop !)))) (ap (vptr b) (first_at (align (layout Y)) o))) refl (tt, tt) $
          sets ! (bin ! (get ! refl) (get ! refl) tt) refl (tt, tt) $
          sets ! (addr ! (through ! refl (stop !))) refl (tt, tt) $
          returns ! (look_at ! 0 refl) $ free_all ! refl $ keep ! (0 ∷ 1 ∷ 2 ∷ 3 ∷ []) $ by ! (exits t.0 e t.1))))

  meets : (𝓣 : Tables 𝓤 H) → Meets 𝓛 (ended Y).signature (WpFn 𝓤 H 𝓣.C 𝓣.Λ (function Y)) (closing 𝓛 (ended Y) held)
  meets 𝓣 =
      walk_Meets 𝓛 (ended Y) (stayed Y) (Goes-spent_ref 𝓛 2 (0 ∷ []) tt (plain (λ _. Tb Y)), (Goes-dropped 𝓛 2 (plain (λ _. usize)) yes (λ κs x f. refl), tt)) held
      (WpFn 𝓤 H 𝓣.C 𝓣.Λ (function Y)) (WpFn-mono 𝓤 H 𝓛.laws 𝓣 (function Y))
      (walked 𝓛 (ended Y) (stayed Y) held (WpFn 𝓤 H 𝓣.C 𝓣.Λ (function Y)) (λ κs. (mut_vals, (uint_vals w64, tt))) (λ κs. (mut_Tells (named 0) κs.0 (Tb Y), (uint_Tells w64, tt)))
      (λ κs qs bounds a g are.
      let F₁ : SProp 𝓤 = fact 𝓤 (κs.1.0 ⊑ Y.lives) in
      let F₂ : SProp 𝓤 = fact 𝓤 (size (layout (Tb Y)) < 2 ^ 63) in
      let F₃ : SProp 𝓤 = fact 𝓤 (a.1.0 < 8) in
      let P : SProp 𝓤 = on_entry 𝓛 (ended Y).signature κs qs a (vptr a.0.ref_ptr.0 a.0.ref_ptr.1 ∷ [], (vint w64 a.1.0 ∷ [], tt)) in
      let tail : ent 𝓤 (sep 𝓤 P (sep 𝓤 F₁ (sep 𝓤 F₂ F₃))) (sep 𝓤 F₂ F₃) = via 𝓤 (sep 𝓤 F₁ (sep 𝓤 F₂ F₃)) (snd∗ 𝓤 P (sep 𝓤 F₁ (sep 𝓤 F₂ F₃))) (snd∗ 𝓤 F₁ (sep 𝓤 F₂ F₃)) in
      fact_use 𝓤 (size (layout (Tb Y)) < 2 ^ 63) (via 𝓤 (sep 𝓤 F₂ F₃) tail (fst∗ 𝓤 F₂ F₃)) (λ fit. fact_use 𝓤 (a.1.0 < 8) (via 𝓤 (sep 𝓤 F₂ F₃) tail (snd∗ 𝓤 F₂ F₃)) (λ li.
      via 𝓤 P (fst∗ 𝓤 P (sep 𝓤 F₁ (sep 𝓤 F₂ F₃)))
      (walk κs.0 κs.1.0 qs.0 qs.1.0 bounds a.0.ref_ptr.0 a.0.ref_ptr.1 a.0.ghost_name a.0.now a.1.0 are.1.0.1 𝓣.C 𝓣.Λ li (within _ _ (s Y) (2 ^ 63) fit))))))

pub at_spec : {M : Type 1} → stated.statement M
unfolding tables_of
at_spec 𝓤 𝓛 𝓜 𝓡 wired Y laws =
    let A = 𝓛.A in
    let 𝓣 : Tables 𝓤 𝓛.H = tables_of 𝓤 𝓛.H 𝓜 (tables 𝓤 𝓛.H 𝓜 𝓡 𝓡.env) in
    entered 𝓤 𝓛.H (triple_of 𝓛 (ended Y).signature (closing 𝓛 (ended Y) (clauses Y 𝓛 𝓜.mem 𝓡.returns))) 𝓣.C 𝓣.Λ (#self (layouts (a_type ∷ []) (Y, tt))) (function Y) (code.unfolded 𝓤 𝓛.H 𝓜 𝓡 wired (Y, tt))
    (meets Y laws 𝓛 𝓜.mem 𝓡.returns 𝓣)
