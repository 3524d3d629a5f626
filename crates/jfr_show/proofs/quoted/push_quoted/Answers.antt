use Rattle.std.proofs.Common.{◌≡◌, ℕ, List, [], ◌∷◌, ◌++◌, OnOk, codes, flat_map, map, refl, ap, sym, ◌∙◌, subst}
use Rattle.std.specs.Str.{chars}
use Rattle.std.proofs.lemmas.Iterator.{YieldsList-from_chars}
use Rattle.std.proofs.lemmas.Iterator.Consumers.{YieldsList-end}
use Rattle.std.proofs.lemmas.List.{append_assoc}
use Rattle.jfr_show.specs.Texts.{escaped, quoted}
use Rattle.jfr_show.proofs.quoted.push_quoted.Goals as goal

same : (xs : List ℕ) → map (λ c. c) xs ≡ xs
same [] = refl
same (x ∷ xs) = ap (λ (z : List ℕ). x ∷ z) (same xs)

closed : (was before now text all : List ℕ) → before ≡ was ++ codes "\"" → now ≡ before ++ flat_map escaped all → all ≡ text → now ++ codes "\"" ≡ was ++ quoted text
closed was before now text all b n t =
    let q : List ℕ = codes "\"" in
    let e : now ++ q ≡ ((was ++ q) ++ flat_map escaped text) ++ q = ap (λ z. z ++ q) (n ∙ (ap (λ z. before ++ flat_map escaped z) t ∙ ap (λ z. z ++ flat_map escaped text) b)) in
    e ∙ simp append_assoc

pub returns : goal.returns
returns c =
    let t = YieldsList-end (YieldsList-from_chars c.args.text.now c.utf8.text cc) c.loop-character.yielded _ c.loop-character.yielded_by _ _ c.in-None.is c.next.ensures.steps in
    let all : c.loop-character.yielded ≡ chars c.args.text.now = sym (same c.loop-character.yielded) ∙ t.0 in
    let e = closed c.args.out.now c.push_ascii.new.self c.loop-character.out (chars c.args.text.now) c.loop-character.yielded c.in_ok-push_ascii.ensures.ok c.loop-character.invariant all in
    record { ok = subst (λ z. OnOk c.push_ascii-2.result (c.push_ascii-2.new.self ≡ z)) e c.push_ascii-2.ensures.ok }
