-- One counterparty judged again after the other.
use Rattle.std.proofs.Common.{◌≡◌, ℕ, ◌+◌, ◌*◌, ◌<◌, ◌≤◌, List, [], ◌∷◌, ◌++◌, map, length, take, sym, ap, ◌∙◌, subst, arith}
use Rattle.std.proofs.lemmas.List.{length-map, map_more, map_push}
use Rattle.histories.specs.declared.data.Note.{Note}
use Rattle.histories.specs.Calls.{Party, changed, notes}
use Rattle.querybox.specs.declared.inner.Inner.{Inner}
use Rattle.querybox.specs.declared.party.Party.{Party as Stored}
use Rattle.querybox.specs.Parties.{blank, party_of}
use Rattle.querybox.specs.Entries.{entry_at, Moved}
use Rattle.querybox.specs.Notes.{Written}
use Rattle.querybox.proofs.Views.{view-length, view-push}
use Rattle.querybox.proofs.Moves.{moved_other}
use Rattle.querybox.proofs.Writing.{written_more, notes_push}

abbrev first_of : Inner Stored → ℕ → List Party
first_of x p = map party_of (take p x.parties.items)

module _ (f : Party → Party) where
  -- the counterparties before p have been judged again, and the notes on them are written
  pub record Done (p : ℕ) (old new : Inner Stored) (before : List Note) (end : ℕ) (out : List Note) : Type 0 where
    pub parties : first_of new p ≡ map f (first_of old p)
    pub others : (k : ℕ) → p ≤ k → entry_at new k blank ≡ entry_at old k blank
    pub written : Written before 0 (notes 0 (first_of old p) (map f (first_of old p))) end out
    pub most : end ≤ 64 * p
    pub count : new.count ≡ old.count

  pub done_more : {p : ℕ} {old mid new : Inner Stored} {before out out' : List Note} {end end' : ℕ} → Done p old mid before end out → p < old.count → Moved f p mid new
      → Written out end (changed p 0 (party_of (entry_at mid p blank)).log (party_of (entry_at new p blank)).log) end' out' → end' ≤ end + 64
      → Done (p + 1) old new before end' out'
  done_more {p} {old} {mid} {new} {before} {out} {out'} {end} {end'} d b m w most =
      let l : p < length old.parties.items = omega (arith, old.few, old.eight) in
      let x : Party = party_of (entry_at old p blank) in
      let same : party_of (entry_at mid p blank) ≡ x = ap party_of (d.others p (omega arith)) in
      let by : party_of (entry_at new p blank) ≡ f x = m.by ∙ ap f same in
      let fo : List Party = first_of old p in
      let ro : List Party = map f fo in
      let more : first_of old (p + 1) ≡ fo ++ x ∷ [] = map_more party_of old.parties.items p blank l in
      let again : map f (first_of old (p + 1)) ≡ ro ++ f x ∷ [] = ap (map f) more ∙ map_push f fo x in
      let n : 0 + length fo ≡ p = omega (arith, view-length party_of old.parties.items p (omega arith)) in
      let noted : notes 0 (first_of old (p + 1)) (map f (first_of old (p + 1))) ≡ notes 0 fo ro ++ changed p 0 (party_of (entry_at mid p blank)).log (party_of (entry_at new p blank)).log =
      ap (λ ys. notes 0 ys (map f (first_of old (p + 1)))) more ∙ ap (notes 0 (fo ++ x ∷ [])) again
      ∙ notes_push 0 fo ro x (f x) (sym (length-map fo f)) ∙ ap (λ i. notes 0 fo ro ++ changed i 0 x.log (f x).log) n
      ∙ ap (λ y. notes 0 fo ro ++ changed p 0 y.log (f x).log) (sym same)
      ∙ ap (λ y. notes 0 fo ro ++ changed p 0 (party_of (entry_at mid p blank)).log y.log) (sym by) in
      record {
        parties =
            ap (λ xs. map party_of (take (p + 1) xs)) m.alone ∙ view-push party_of mid.parties.items p (entry_at new p blank) (omega (arith, mid.eight, mid.few, d.count))
            ∙ ap (λ ys. ys ++ party_of (entry_at new p blank) ∷ []) d.parties ∙ ap (λ y. ro ++ y ∷ []) by ∙ sym again;
        others = λ k g. moved_other m k (λ e. omega arith) ∙ d.others k (omega arith);
        written = subst (λ ns. Written before 0 ns end' out') (sym noted) (written_more d.written w);
        most = omega (arith, d.most);
        count = m.count ∙ d.count;
      }
