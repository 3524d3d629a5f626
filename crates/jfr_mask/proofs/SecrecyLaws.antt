-- Values that differ only in masked texts are masked alike.
use Rattle.std.specs.Prelude.{◌≡◌, ℕ, zero, suc, Bool, true, false, List, [], ◌++◌, map, Option, None, if◌then◌else◌}
use Rattle.std.specs.Option.{option_map}
use Rattle.std.proofs.Common.{ap, refl, sym, ◌∙◌, subst}
use Rattle.std.proofs.lemmas.List.{map-append}
use Rattle.jfr_layout.specs.declared.shape.Shape.{Shape}
use Rattle.jfr_value.specs.declared.leaf.Holder.{Holder}
use Rattle.jfr_value.specs.declared.leaf.LeafKind.{LeafKind}
use Rattle.jfr_value.specs.Leaves.{part_holder}
use Rattle.jfr_value.specs.Values.{Value, Values, Single, Group, Nil, Cons}
use Rattle.jfr_chunk.specs.Parts.{Parts}
use Rattle.jfr_rewrite.specs.Changed.{Change, changed, changed_all, plain, single_of}
use Rattle.jfr_mask.specs.Masked.{is_masked_string, masked_texts, masked_texts_all, masking, numbered_text, string_bytes, string_text}
use Rattle.jfr_mask.specs.Pseudonyms.{shown}
use Rattle.jfr_mask.specs.Secrecy.{IsExchange, AlikeSingle, AlikeValue, AlikeValues}
use Rattle.jfr_mask.proofs.ExchangeLaws.{numbered_exchanged, text_alike}

module _ (known : List ℕ → Bool) (g : List ℕ → List ℕ) (ex : IsExchange known g) (masked : Option Holder → Bool) (p q : Parts) where
  single_texts : (class : ℕ) (b c : List ℕ) (key other : Option ℕ) (t : Bool) → AlikeSingle t g p q class b key c other
      → (if t then numbered_text known (string_text q class c other) else []) ≡ map g (if t then numbered_text known (string_text p class b key) else [])
  single_texts class b c key other true a = ap (numbered_text known) a ∙ numbered_exchanged known g ex (string_text p class b key)
  single_texts class b c key other false a = refl

  -- The texts of the masked strings of the second value are the exchanged ones.
  mutual
    pub texts_exchanged : (h : Option Holder) (v w : Value) → AlikeValue masked g p q h v w → masked_texts masked known q h w ≡ map g (masked_texts masked known p h v)
    texts_exchanged h (Single s kind b key) (Single t other_kind c other) a =
        subst (λ z. masked_texts masked known q h (Single z other_kind c other) ≡ map g (masked_texts masked known p h (Single s kind b key))) a.0
        (subst (λ z. masked_texts masked known q h (Single s z c other) ≡ map g (masked_texts masked known p h (Single s kind b key))) a.1
        (single_texts s.class b c key other (is_masked_string masked h (Single s kind b key)) a.2))
    texts_exchanged h (Group s head vs) (Group t other_head ws) a =
        subst (λ z. masked_texts_all masked known q (part_holder z h) ws ≡ map g (masked_texts_all masked known p (part_holder s h) vs)) a.0 (all_exchanged (part_holder s h) vs ws a.2)
    texts_exchanged h (Single s kind b key) (Group t other_head ws) a = absurd a
    texts_exchanged h (Group s head vs) (Single t other_kind c other) a = absurd a

    all_exchanged : (f : ℕ → Option Holder) (vs ws : Values) → AlikeValues masked g p q f vs ws → masked_texts_all masked known q f ws ≡ map g (masked_texts_all masked known p f vs)
    all_exchanged f Nil Nil a = refl
    all_exchanged f (Cons v vs) (Cons w ws) a =
        ap (λ z. z ++ masked_texts_all masked known q (λ n. f (suc n)) ws) (texts_exchanged (f zero) v w a.0)
        ∙ (ap (λ z. map g (masked_texts masked known p (f zero) v) ++ z) (all_exchanged (λ n. f (suc n)) vs ws a.1)
        ∙ sym (map-append g (masked_texts masked known p (f zero) v) (masked_texts_all masked known p (λ n. f (suc n)) vs)))
    all_exchanged f Nil (Cons w ws) a = absurd a
    all_exchanged f (Cons v vs) Nil a = absurd a

  module _ (d : List (List ℕ)) where
    abbrev one : Change
    one = masking masked (shown known d) p

    abbrev two : Change
    two = masking masked (shown known (map g d)) q

    single_alike : (s : Shape) (kind : LeafKind) (b c : List ℕ) (key other : Option ℕ) (t : Bool) → AlikeSingle t g p q s.class b key c other
        → single_of s (if t then plain kind (string_bytes (option_map (shown known (map g d)) (string_text q s.class c other))) None else plain kind c other)
        ≡ single_of s (if t then plain kind (string_bytes (option_map (shown known d) (string_text p s.class b key))) None else plain kind b key)
    single_alike s kind b c key other true a =
        ap (λ z. single_of s (plain kind (string_bytes z) None)) (ap (option_map (shown known (map g d))) a ∙ text_alike known g ex d (string_text p s.class b key))
    single_alike s kind b c key other false a = λ i. single_of s (plain kind (sym a.0 i) (sym a.1 i))

    -- With the exchanged dictionary, the second value is masked as the first is.
    mutual
      pub masked_alike : (h : Option Holder) (v w : Value) → AlikeValue masked g p q h v w → changed two h w ≡ changed one h v
      masked_alike h (Single s kind b key) (Single t other_kind c other) a =
          subst (λ z. changed two h (Single z other_kind c other) ≡ changed one h (Single s kind b key)) a.0
          (subst (λ z. changed two h (Single s z c other) ≡ changed one h (Single s kind b key)) a.1
          (single_alike s kind b c key other (is_masked_string masked h (Single s kind b key)) a.2))
      masked_alike h (Group s head vs) (Group t other_head ws) a =
          subst (λ z. changed two h (Group z other_head ws) ≡ changed one h (Group s head vs)) a.0
          (ap (λ z. Group s z (changed_all two (part_holder s h) ws)) (sym a.1) ∙ ap (Group s head) (all_alike (part_holder s h) vs ws a.2))
      masked_alike h (Single s kind b key) (Group t other_head ws) a = absurd a
      masked_alike h (Group s head vs) (Single t other_kind c other) a = absurd a

      all_alike : (f : ℕ → Option Holder) (vs ws : Values) → AlikeValues masked g p q f vs ws → changed_all two f ws ≡ changed_all one f vs
      all_alike f Nil Nil a = refl
      all_alike f (Cons v vs) (Cons w ws) a =
          ap (λ z. Cons z (changed_all two (λ n. f (suc n)) ws)) (masked_alike (f zero) v w a.0) ∙ ap (Cons (changed one (f zero) v)) (all_alike (λ n. f (suc n)) vs ws a.1)
      all_alike f Nil (Cons w ws) a = absurd a
      all_alike f (Cons v vs) Nil a = absurd a
