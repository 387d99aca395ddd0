-- Notes written one after the other into a slice.
use Rattle.std.proofs.Common.{◌≡◌, ℕ, suc, ◌+◌, ◌-◌, ◌<◌, ◌≤◌, Bool, true, false, cond, List, [], ◌∷◌, ◌++◌, length, get_or, take, drop, sym, refl, ap, ◌∙◌, subst, append_assoc, append-nil, arith, length-append, length-take, drop-drop}
use Rattle.std.proofs.lemmas.List.{take_more}
use Rattle.histories.specs.declared.data.Entry.{Entry}
use Rattle.histories.specs.declared.data.Note.{Note}
use Rattle.histories.specs.Calls.{Party, differs, changed, notes}
use Rattle.querybox.specs.Notes.{Written, note_on}

-- what is alike from n on is alike from r on
drop_later : (n r : ℕ) (xs ys : List Note) → n ≤ r → drop n xs ≡ drop n ys → drop r xs ≡ drop r ys
drop_later n r xs ys l e =
    let s : n + (r - n) ≡ r = omega arith in
    ap (λ j. drop j xs) (sym s) ∙ sym (drop-drop (r - n) n xs) ∙ ap (drop (r - n)) e ∙ drop-drop (r - n) n ys ∙ ap (λ j. drop j ys) s

pub written_more : {old mid new ns ms : List Note} {n m r : ℕ} → Written old n ns m mid → Written mid m ms r new → Written old n (ns ++ ms) r new
written_more {old} {mid} {new} {ns} {ms} {n} {m} {r} a b = record {
  count = omega (arith, length-append ns ms);
  front = b.front ∙ ap (λ xs. xs ++ ms) a.front ∙ append_assoc (take n old) ns ms;
  rest = b.rest ∙ drop_later m r mid old (omega (arith, b.count)) a.rest;
}

abbrev note_at : ℕ → ℕ → Entry → Entry → List Note
note_at c i e e' = note_on e.reply (record { counterparty = c; place = i; reply = e'.reply })

-- one place more
changed_push : (c k : ℕ) (old new : List Entry) (e e' : Entry) → length old ≡ length new
    → changed c k (old ++ e ∷ []) (new ++ e' ∷ []) ≡ changed c k old new ++ note_at c (k + length old) e e'
changed_push c k [] [] e e' l = let s : k ≡ k + 0 = omega arith in ap (λ i. note_at c i e e') s
changed_push c k [] (x' ∷ new) e e' l = absurd (omega arith)
changed_push c k (x ∷ old) [] e e' l = absurd (omega arith)
changed_push c k (x ∷ old) (x' ∷ new) e e' l =
    let s : (k + 1) + length old ≡ k + suc (length old) = omega arith in
    rw (changed_push c (k + 1) old new e e' (omega arith), s)
    (either (differs x.reply x'.reply) (record { counterparty = c; place = k; reply = x'.reply }) (changed c (k + 1) old new) _)
  where
    either : (b : Bool) (y : Note) (ys zs : List Note) → cond b (y ∷ (ys ++ zs)) (ys ++ zs) ≡ cond b (y ∷ ys) ys ++ zs
    either true y ys zs = refl
    either false y ys zs = refl

pub changed_more : {out mid end : List Note} {n m r : ℕ} (c i : ℕ) (old new : List Entry) (d d' : Entry) → i < length old → i < length new
    → Written out n (changed c 0 (take i old) (take i new)) m mid → Written mid m (note_at c i (get_or old i d) (get_or new i d')) r end
    → Written out n (changed c 0 (take (i + 1) old) (take (i + 1) new)) r end
changed_more {out} {mid} {end} {n} {m} {r} c i old new d d' l l' a b =
    let s : 0 + length (take i old) ≡ i = omega (arith, length-take i old) in
    let same : length (take i old) ≡ length (take i new) = omega (arith, length-take i old, length-take i new) in
    let more : changed c 0 (take (i + 1) old) (take (i + 1) new) ≡ changed c 0 (take i old) (take i new) ++ note_at c i (get_or old i d) (get_or new i d') =
    rw (take_more old i d l, take_more new i d' l')
    (changed_push c 0 (take i old) (take i new) (get_or old i d) (get_or new i d') same ∙ ap (λ k. changed c 0 (take i old) (take i new) ++ note_at c k (get_or old i d) (get_or new i d')) s) in
    subst (λ ns. Written out n ns r end) (sym more) (written_more a b)

-- the same, by the entries as they are read from both logs at once
pub changed_next : {out mid end : List Note} {n m r : ℕ} (c i place : ℕ) (old new : List Entry) (e e' : Entry) → i < length old → i < length new
    → ◌≡◌ {A = ℕ × (Entry × Entry)} (place, (e, e')) (i, (get_or old i e, get_or new i e'))
    → Written out n (changed c 0 (take i old) (take i new)) m mid → Written mid m (note_at c place e e') r end
    → Written out n (changed c 0 (take (i + 1) old) (take (i + 1) new)) r end
changed_next {mid = mid} {end = end} {m = m} {r = r} c i place old new e e' l l' is a b =
    changed_more c i old new e e' l l' a (subst (λ (x : ℕ × (Entry × Entry)). Written mid m (note_at c x.0 x.1.0 x.1.1) r end) is b)

-- one counterparty more
pub notes_push : (k : ℕ) (old new : List Party) (p p' : Party) → length old ≡ length new
    → notes k (old ++ p ∷ []) (new ++ p' ∷ []) ≡ notes k old new ++ changed (k + length old) 0 p.log p'.log
notes_push k [] [] p p' l = let s : k ≡ k + 0 = omega arith in append-nil (changed k 0 p.log p'.log) ∙ ap (λ i. changed i 0 p.log p'.log) s
notes_push k [] (x' ∷ new) p p' l = absurd (omega arith)
notes_push k (x ∷ old) [] p p' l = absurd (omega arith)
notes_push k (x ∷ old) (x' ∷ new) p p' l =
    let s : (k + 1) + length old ≡ k + suc (length old) = omega arith in
    rw (notes_push (k + 1) old new p p' (omega arith), s) (sym (append_assoc (changed k 0 x.log x'.log) (notes (k + 1) old new) (changed (k + suc (length old)) 0 p.log p'.log)))
