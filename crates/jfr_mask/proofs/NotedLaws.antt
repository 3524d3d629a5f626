-- What is noted for texts stays right while a dictionary grows.
use Rattle.std.specs.Prelude.{◌≡◌, ◌≢◌, ℕ, zero, suc, ◌-◌, ◌<◌, ◌≤◌, ◌^◌, Bool, true, false, List, [], ◌∷◌, ◌++◌, encode_utf8_all, get_or, length, nat_lt, replicate, slice_get, Option, Some, None, option_and_then, if◌then◌else◌}
use Rattle.std.specs.Option.{option_map}
use Rattle.std.proofs.Common.{◌⊎◌, inl, inr, ap, arith, refl, sym, subst, ◌∙◌}
use Rattle.std.proofs.Math.ListN.{set}
use Rattle.std.proofs.lemmas.Bool.{cases_lt}
use Rattle.std.proofs.lemmas.List.{get_or-set_other, get_or-set_same, length-replicate, length-set}
use Rattle.std.proofs.lemmas.Option.{slice_get-get_or}
use Rattle.jfr_meta.specs.Written.{text_bytes}
use Rattle.jfr_value.specs.Leaves.{LeafAt, leaf_key}
use Rattle.jfr_pool.specs.declared.entry.EntryAt.{EntryAt}
use Rattle.jfr_pool.specs.Entries.{number_in_force}
use Rattle.jfr_pool.proofs.ForceLaws.{force_within}
use Rattle.jfr_chunk.specs.Parts.{Parts}
use Rattle.jfr_mask.specs.declared.event_strings.StringAt.{StringAt}
use Rattle.jfr_mask.specs.declared.noted.Noted.{Noted}
use Rattle.jfr_mask.specs.declared.noted.NotedTexts.{NotedTexts}
use Rattle.jfr_mask.specs.Masked.{numbered_text, string_bytes, string_text}
use Rattle.jfr_mask.specs.MaskedLeaves.{leaf_text}
use Rattle.jfr_mask.specs.Noted.{AreNoted, AreNotedFor, IsMaskedAt, IsNotedFor, entry_by, entry_text, noted_as, nothing, text_at}
use Rattle.jfr_mask.specs.Pseudonyms.{Extends, is_descriptor, number_of, pseudonym, shown, is_unmasked, with_text, with_texts}
use Rattle.jfr_mask.specs.Written.{utf8_string}
use Rattle.jfr_mask.proofs.NumberLaws.{at_number, has_at, has_one}

get_append : {X : Type 0} (xs ys : List X) (i : ℕ) (x : X) → slice_get xs i ≡ Some x → slice_get (xs ++ ys) i ≡ Some x
get_append [] ys i x e = cc
get_append (z ∷ zs) ys zero x e = e
get_append (z ∷ zs) ys (suc i) x e = get_append zs ys i x e

masked_grows : (known : List ℕ → Bool) (d after : List (List ℕ)) (text : List ℕ) (index : ℕ) → Extends d after → IsMaskedAt known d text index → IsMaskedAt known after text index
masked_grows known d after text index x m = record { there = ap (λ z. slice_get z index) x.is ∙ get_append d x.rest index text m.there; hidden = m.hidden }

noted_one_grows : (known : List ℕ → Bool) (d after : List (List ℕ)) (found : Option (List ℕ)) (n : Noted) → Extends d after → IsNotedFor known d found n → IsNotedFor known after found n
noted_one_grows known d after found n x h = λ index q. (let r = h index q in (r.0, r.1, masked_grows known d after r.0 index x r.2, r.3))

-- Nothing is right for any text.
nothing_noted : (known : List ℕ → Bool) (d : List (List ℕ)) (found : Option (List ℕ)) → IsNotedFor known d found nothing
nothing_noted known d found = λ index q. absurd (omega (arith, q))

module _ (known : List ℕ → Bool) (X : Type 0) (text_of : X → Option (List ℕ)) (xs : List X) where
  list_grows : (d after : List (List ℕ)) (noted : List Noted) → Extends d after → AreNotedFor known d X text_of xs noted → AreNotedFor known after X text_of xs noted
  list_grows d after noted x a = record {
    size = a.size;
    each = λ i y there. noted_one_grows known d after (text_of y) (get_or noted i nothing) x (a.each i y there);
  }

  pub list_none : (d : List (List ℕ)) (noted : List Noted) → noted ≡ replicate (length xs) nothing → AreNotedFor known d X text_of xs noted
  list_none d noted is = record {
    size = ap length is ∙ length-replicate (length xs) nothing;
    each = λ i y there. subst (IsNotedFor known d (text_of y)) (sym (ap (λ z. get_or z i nothing) is ∙ always_nothing (length xs) i)) (nothing_noted known d (text_of y));
  }
    where
      always_nothing : (k i : ℕ) → get_or (replicate k nothing) i nothing ≡ nothing
      always_nothing zero i = refl
      always_nothing (suc k) zero = refl
      always_nothing (suc k) (suc i) = always_nothing k i

  -- One more is noted.
  pub list_more : (d : List (List ℕ)) (noted : List Noted) (at : ℕ) (n : Noted) → at < length noted → ((y : X) → slice_get xs at ≡ Some y → IsNotedFor known d (text_of y) n)
      → AreNotedFor known d X text_of xs noted → AreNotedFor known d X text_of xs (set noted at n)
  list_more d noted at n l here a = record {
    size = length-set noted at n ∙ a.size;
    each = λ i y there. by_less i y there (cases_lt i at) (cases_lt at i);
  }
    where
      other : (i : ℕ) (y : X) → slice_get xs i ≡ Some y → i ≢ at → IsNotedFor known d (text_of y) (get_or (set noted at n) i nothing)
      other i y there apart = subst (IsNotedFor known d (text_of y)) (sym (get_or-set_other noted at i n nothing apart)) (a.each i y there)

      by_less : (i : ℕ) (y : X) → slice_get xs i ≡ Some y → (i < at) ⊎ (at ≤ i) → (at < i) ⊎ (i ≤ at) → IsNotedFor known d (text_of y) (get_or (set noted at n) i nothing)
      by_less i y there (inl less) h = other i y there (λ q. absurd (omega (arith, less, q)))
      by_less i y there (inr more) (inl less) = other i y there (λ q. absurd (omega (arith, less, q)))
      by_less i y there (inr more) (inr most) =
          let same : at ≡ i = omega (arith, more, most) in
          subst (λ z. IsNotedFor known d (text_of y) (get_or (set noted at n) z nothing)) same
          (subst (IsNotedFor known d (text_of y)) (sym (get_or-set_same noted at n nothing l)) (here y (ap (slice_get xs) same ∙ there)))

pub noted_grow : (p : Parts) (known : List ℕ → Bool) (d after : List (List ℕ)) (ss : List StringAt) (noted : NotedTexts) → Extends d after → AreNoted p known d ss noted → AreNoted p known after ss noted
noted_grow p known d after ss noted x a = record {
  entries = list_grows known EntryAt (entry_text p) p.entries d after noted.entries.items x a.entries;
  strings = list_grows known StringAt (text_at p) ss d after noted.strings.items x a.strings;
}

-- The entry to which a string leads is there, and has the string's text.
pub leads_there : (p : Parts) (l : LeafAt) (entry : ℕ) → entry_by p l ≡ Some entry → (entry < length p.entries) × ((e : EntryAt) → slice_get p.entries entry ≡ Some e → leaf_text p l ≡ entry_text p e)
leads_there p l entry h = by_key (leaf_key l.kind l.spelled) refl
  where
    by_key : (o : Option ℕ) → leaf_key l.kind l.spelled ≡ o → (entry < length p.entries) × ((e : EntryAt) → slice_get p.entries entry ≡ Some e → leaf_text p l ≡ entry_text p e)
    by_key None q = let z : None ≡ Some entry = sym (ap (option_and_then (λ key. number_in_force p.entries (l.class, key))) q) ∙ h in cc
    by_key (Some key) q =
        let f : number_in_force p.entries (l.class, key) ≡ Some entry = sym (ap (option_and_then (λ key. number_in_force p.entries (l.class, key))) q) ∙ h in
        (force_within p.entries (l.class, key) entry f, λ e there. text_by key e there f q)
      where
        text_by : (key : ℕ) (e : EntryAt) → slice_get p.entries entry ≡ Some e → number_in_force p.entries (l.class, key) ≡ Some entry → leaf_key l.kind l.spelled ≡ Some key
            → leaf_text p l ≡ entry_text p e
        text_by key e there f q = ap (string_text p l.class l.spelled) q ∙ ap (option_and_then (entry_text p)) (ap (option_and_then (λ n. slice_get p.entries n)) f ∙ there)

-- A text that is noted is in the dictionary.
pub noted_same : (known : List ℕ → Bool) (d : List (List ℕ)) (text : List ℕ) (index : ℕ) → IsMaskedAt known d text index → with_texts d (numbered_text known (Some text)) ≡ d
noted_same known d text index m =
    ap (λ b. with_texts d (if b then [] else text ∷ [])) m.hidden ∙ ap (λ b. if b then d else d ++ text ∷ []) (has_at d index text m.there)

-- A text that is added has its number.
pub masked_added : (known : List ℕ → Bool) (d : List (List ℕ)) (text : List ℕ) (index : ℕ) → is_unmasked known text ≡ false → suc index ≡ number_of (with_text d text) text
    → IsMaskedAt known (with_text d text) text index
masked_added known d text index h e =
    record {
      there = (let n : number_of (with_text d text) text - 1 ≡ index = omega (arith, e) in subst (λ z. slice_get (with_text d text) z ≡ Some text) n
          (at_number (with_text d text) text (has_one d text)));
      hidden = h;
    }

-- A string with what is shown for a text that isn't shown as it is.
pub noted_string : (known : List ℕ → Bool) (d : List (List ℕ)) (text u : List ℕ) → is_unmasked known text ≡ false → u ≡ encode_utf8_all (shown known d text)
    → string_bytes (option_map (shown known d) (Some text)) ≡ utf8_string u
noted_string known d text u h e =
    let s : shown known d text ≡ pseudonym (is_descriptor text) (number_of d text) = ap (λ b. if b then text else pseudonym (is_descriptor text) (number_of d text)) h in
    ap text_bytes s ∙ (by_descriptor (is_descriptor text) (number_of d text) ∙ (ap filled (sym s) ∙ ap utf8_string (sym e)))
  where
    filled : List ℕ → List ℕ
    filled t = utf8_string (encode_utf8_all t)

    by_descriptor : (b : Bool) (n : ℕ) → text_bytes (pseudonym b n) ≡ filled (pseudonym b n)
    by_descriptor true n = refl
    by_descriptor false n = refl

-- What is noted for an entry is right for the text of a string that leads to it.
pub noted_leads : (p : Parts) (known : List ℕ → Bool) (d : List (List ℕ)) (noted : List Noted) (l : LeafAt) (entry : ℕ) → entry_by p l ≡ Some entry → AreNotedFor known d EntryAt (entry_text p) p.entries noted
    → IsNotedFor known d (leaf_text p l) (get_or noted entry nothing)
noted_leads p known d noted l entry h a =
    let none : EntryAt = record { class = 0; key = 0; key_at = 0; value_at = 0; end = 0; checkpoint = 0; pool = 0 } in
    let leads = leads_there p l entry h in
    let e = get_or p.entries entry none in
    let there = slice_get-get_or p.entries entry none leads.0 in
    subst (λ z. IsNotedFor known d z (get_or noted entry nothing)) (sym (leads.1 e there)) (a.each entry e there)

-- A noted text needn't be added.
pub noted_ok : (known : List ℕ → Bool) (d : List (List ℕ)) (found : Option (List ℕ)) (n : Noted) → n.number ≢ 0 → IsNotedFor known d found n → d ≡ with_texts d (numbered_text known found)
noted_ok known d found n some h = by_number n.number refl
  where
    by_number : (number : ℕ) → n.number ≡ number → d ≡ with_texts d (numbered_text known found)
    by_number zero q = absurd (some q)
    by_number (suc index) q = let r = h index q in sym (ap (λ o. with_texts d (numbered_text known o)) r.1 ∙ noted_same known d r.0 index r.2)

-- What is noted for a text that is added.
pub added_number : (known : List ℕ → Bool) (old new : List (List ℕ)) (text : List ℕ) (number : ℕ) → is_unmasked known text ≡ false → new ≡ with_text old text → number ≡ number_of new text
    → IsNotedFor known new (Some text) (noted_as text number)
added_number known old new text number h e m = by_size (nat_lt number (2 ^ 32))
  where
    is_there : (index : ℕ) → number ≡ suc index → IsMaskedAt known new text index
    is_there index q = subst (λ z. IsMaskedAt known z text index) (sym e) (masked_added known old text index h (sym q ∙ (m ∙ ap (λ z. number_of z text) e)))

    by_size : (b : Bool) → IsNotedFor known new (Some text) (if b then record { number = number; descriptor = is_descriptor text } else nothing)
    by_size true = λ index q. (text, refl, is_there index q, refl)
    by_size false = nothing_noted known new (Some text)

pub same_text : (t u : List ℕ) → Some t ≡ Some u → t ≡ u
same_text t u e = cc
