-- What `map_err` makes of a result.
use Rattle.std.proofs.Common.{◌≡◌, ℕ, Ok, Err, Result, refl, subst, arith}
use Rattle.std.specs.Result.{MatchResult, IsErrAnd}
use Rattle.std.proofs.lemmas.Result.{err_from_is_err_and}

-- an `Ok` was there before
pub ok_before : {T E D : Type 0} (Q : E → D → Type 0) (r : Result T E) {s : Result T D} {x : T}
    → MatchResult r (λ y. s ≡ Ok y) (λ e. IsErrAnd s (Q e)) → s ≡ Ok x → r ≡ Ok x
ok_before Q (Ok y) h e = cc
ok_before Q (Err d) {s} h e = let p = err_from_is_err_and s h in let q = p.1 in let z : ◌≡◌ {A = ℕ} 0 1 = cc in absurd (omega arith)

-- an `Err` comes from one
pub err_before : {T E D : Type 0} (Q : E → D → Type 0) (r : Result T E) {s : Result T D} {d : D}
    → MatchResult r (λ y. s ≡ Ok y) (λ e. IsErrAnd s (Q e)) → s ≡ Err d → (e : E) × (r ≡ Err e) × Q e d
err_before Q (Ok y) h e = let z : ◌≡◌ {A = ℕ} 0 1 = cc in absurd (omega arith)
err_before Q (Err e) {s} {d} h f =
    let p = err_from_is_err_and s h in
    let q = p.1 in
    let same : p.0 ≡ d = cc in
    (e, refl, subst (Q e) same p.2)
