-- No reading of exact bytes begins another.
use Rattle.std.specs.Prelude.{◌≡◌, ℕ, ◌-◌, List, ◌++◌, length, Ok}
use Rattle.std.proofs.Common.{ap, arith, sym, ◌∙◌, subst}
use Rattle.std.proofs.lemmas.List.{take_at, length-append}
use Rattle.jfr_base.specs.Formats.{Got, Answer, Format, Exactly, run}
use Rattle.jfr_base.proofs.UnitLaws.{one_run}
use Rattle.jfr_base.proofs.RunLaws.{Stands, exact_run}

pub record Once {A : Type 0} (a d : A) (p q : ℕ) : Type 0 where
  pub value : a ≡ d
  pub place : p ≡ q

pub once_ok : {A : Type 0} (a d : A) (p q : ℕ) (r : Answer A) → r ≡ Ok (record { value = a; place = p }) → r ≡ Ok (record { value = d; place = q }) → Once a d p q
once_ok {A = A} a d p q r e f =
    let h : Got A = record { value = a; place = p } in
    let k : Got A = record { value = d; place = q } in
    let s : h ≡ k = cc (sym e ∙ f) in
    record { value = ap (λ (g : Got A). g.value) s; place = ap (λ (g : Got A). g.place) s }

stands_first : (b x : List ℕ) → Stands (b ++ x) 0 (length b) b
stands_first b x = let l = length-append b x in record { order = omega arith; within = omega arith; bytes = take_at b x (length b - 0) (omega arith) }

pub exact_once : {A : Type 0} (f : Format A) (b c x y : List ℕ) (a d : A) → Exactly f b a → Exactly f c d → b ++ x ≡ c ++ y → Once a d (length b) (length c)
exact_once f b c x y a d e g q =
    let l = length-append b x in
    let m = length-append c y in
    let n : length (b ++ x) ≡ length (c ++ y) = ap length q in
    once_ok a d (length b) (length c) (run f (b ++ x) (length (b ++ x)) 0)
    (exact_run (b ++ x) (length (b ++ x)) (omega arith) f 0 (length b) b a e (stands_first b x) (omega arith))
    (exact_run (b ++ x) (length (b ++ x)) (omega arith) f 0 (length c) c d g (subst (λ z. Stands z 0 (length c) c) (sym q) (stands_first c y)) (omega arith))

pub exact_same : {A : Type 0} (f : Format A) (b c x y : List ℕ) (a d : A) → Exactly f b a → Exactly f c d → b ++ x ≡ c ++ y → b ≡ c
exact_same f b c x y a d e g q = (one_run b c x y q (exact_once f b c x y a d e g q).place).0
