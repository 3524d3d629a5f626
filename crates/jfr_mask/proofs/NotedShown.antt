-- Where a pseudonym is noted, it is what is shown for the text.
use Rattle.std.specs.Prelude.{◌≡◌, ◌≢◌, ℕ, zero, suc, ◌+◌, ◌<◌, ◌^◌, List, get_or, Option, Some, None, IfSome}
use Rattle.std.proofs.Common.{◌∙◌, arith, refl, subst, sym}
use Rattle.std.proofs.lemmas.Option.{slice_get-get_or}
use Rattle.jfr_pool.specs.declared.entry.EntryAt.{EntryAt}
use Rattle.jfr_value.specs.Leaves.{LeafAt}
use Rattle.jfr_chunk.specs.Parts.{Parts}
use Rattle.jfr_mask.specs.declared.masker.Masker.{Masker}
use Rattle.jfr_mask.specs.declared.noted.Noted.{Noted}
use Rattle.jfr_mask.specs.MaskedLeaves.{leaf_text}
use Rattle.jfr_mask.specs.Noted.{HasNoted, IsNotedFor, IsShownBy, entry_by, nothing}
use Rattle.jfr_mask.specs.Pseudonyms.{IsDictionary, has_text, number_of, pseudonym}
use Rattle.jfr_mask.proofs.NotedLaws.{leads_there}
use Rattle.jfr_mask.proofs.ShownLaws.{pseudonym_shown}

pub if_some_weaker : {X : Type 0} {P Q : X → Type 0} (o : Option X) → ((x : X) → P x → Q x) → IfSome o P → IfSome o Q
if_some_weaker None f h = tt
if_some_weaker (Some x) f h = f x h

module _ (m : Masker) where
  -- Since texts are distinct, its number is that of the text.
  pub pseudonym_is : (found : Option (List ℕ)) (n : Noted) (u : List ℕ) → IsDictionary m.dictionary.now → IsNotedFor (has_text m.known.now) m.dictionary.now found n → n.number ≢ 0 → n.number < 2 ^ 32
      → u ≡ pseudonym n.descriptor n.number → IsShownBy m found u
  pseudonym_is found n u distinct noted some fits e = by_number n.number refl
    where
      by_number : (k : ℕ) → n.number ≡ k → IsShownBy m found u
      by_number zero q = absurd (some q)
      by_number (suc index) q =
          let r = noted index q in
          let one : n.number ≡ index + 1 = omega (arith, q) in
          let is : n.number ≡ number_of m.dictionary.now r.0 = one ∙ sym (distinct.each index r.0 r.2.there) in
          (r.0, r.1, r.2.hidden, e ∙ pseudonym_shown (has_text m.known.now) m.dictionary.now r.0 n.descriptor n.number (omega (arith, fits)) r.3 is r.2.hidden)

  -- What is noted for an entry is noted for a string that leads to it.
  pub noted_for_leaf : (l : LeafAt) (entry : ℕ) → entry_by m.strings.chunk.now l ≡ Some entry → HasNoted m
      → IsNotedFor (has_text m.known.now) m.dictionary.now (leaf_text m.strings.chunk.now l) (get_or m.noted.now.entries.items entry nothing)
  noted_for_leaf l entry h a =
      let p : Parts = m.strings.chunk.now in
      let none : EntryAt = record { class = 0; key = 0; key_at = 0; value_at = 0; end = 0; checkpoint = 0; pool = 0 } in
      let leads = leads_there p l entry h in
      let e : EntryAt = get_or p.entries entry none in
      let there = slice_get-get_or p.entries entry none leads.0 in
      subst (λ found. IsNotedFor (has_text m.known.now) m.dictionary.now found (get_or m.noted.now.entries.items entry nothing)) (sym (leads.1 e there)) (a.entries.each entry e there)
