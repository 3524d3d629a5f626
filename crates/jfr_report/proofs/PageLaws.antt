-- Texts that are gathered and written.
use Rattle.std.proofs.Common.{◌≡◌, ℕ, suc, ◌+◌, ◌-◌, ◌≤◌, ◌<◌, ◌∙◌, Bool, true, false, refl, sym, ap, subst, List, [], ◌∷◌, ◌++◌, length, take, Option, None, Some, option_map, append_assoc, append-nil, arith}
use Rattle.std.specs.List.{concat}
use Rattle.std.specs.Prelude.{nat_le, ◌==◌}
use Rattle.std.proofs.lemmas.Bool.{leb-true, leb-false, eqb-true}
use Rattle.std.proofs.lemmas.List.{take-append-le}
use Rattle.std.proofs.lemmas.List.Folds.{concat-append}
use Rattle.std.proofs.Math.Seq.{take-append-add}
use Rattle.std.proofs.Common.{Result, Ok, Err, OnOk}
use Rattle.std.specs.Prelude.{encode_utf8_all}
use Rattle.std.specs.Str.{chars, IsUtf8}
use Rattle.std.proofs.lemmas.Str.{encodes-append, encodes-chars}
use Rattle.jfr_outside.specs.World.{IsAfterAppend, added}
use Rattle.jfr_outside.specs.Counts.{Counts}
use Rattle.jfr_outside.specs.declared.fault.Fault.{Fault}
use Rattle.jfr_header.specs.declared.ending.Ending.{Ending}
use Rattle.jfr_plan.proofs.Failing.{Passes, passed}
use Rattle.jfr_value.specs.Nodes.{NodeAt}
use Rattle.jfr_chunk.specs.Parts.{Parts}
use Rattle.jfr_report.specs.Reports.{event_bytes, chunk_of, text_by, writer_of}
use Rattle.jfr_report.specs.Gathered.{Grew, IsGathered, TearsText, WritesSome, TextLeaves, TextCounted, PageLeaves}

-- Nothing is written or gathered yet.
pub begins : (all : List (List ℕ)) (before : Option (List ℕ)) → IsGathered all before before [] all
begins all before = record { written = []; waiting = []; parts = refl; holds = nothing before; gathers = refl }
  where
    nothing : (o : Option (List ℕ)) → o ≡ option_map (added []) o
    nothing None = refl
    nothing (Some b) = ap Some (sym (append-nil b))

-- Two growths are one.
pub grew_on : (x y : List ℕ) (a b c : Option (List ℕ)) → Grew x a b → Grew y b c → Grew (x ++ y) a c
grew_on x y a b c p q = q ∙ ap (option_map (added y)) p ∙ both a
  where
    both : (o : Option (List ℕ)) → option_map (added y) (option_map (added x) o) ≡ option_map (added (x ++ y)) o
    both None = refl
    both (Some s) = ap Some (append_assoc s x y)

module _ (all : List (List ℕ)) (before now : Option (List ℕ)) (g : List ℕ) (rest : List (List ℕ)) (i : IsGathered all before now g rest) where
  -- The texts that are written and those that are gathered.
  pub so_far : all ≡ (i.written ++ i.waiting) ++ rest
  so_far = i.parts ∙ sym (append_assoc i.written i.waiting rest)

  -- What was gathered is written.
  pub written_all : (next : Option (List ℕ)) → Grew g now next → IsGathered all before next [] rest
  written_all next w = record {
    written = i.written ++ i.waiting;
    waiting = [];
    parts = so_far;
    holds = subst (λ z. Grew z before next) (ap (λ z. concat i.written ++ z) i.gathers ∙ sym (concat-append i.written i.waiting)) (grew_on (concat i.written) g before now next i.holds w);
    gathers = refl;
  }

  -- The first of the texts are written.
  pub some_written : WritesSome all before now
  some_written = record { first = i.written; rest = i.waiting ++ rest; parts = i.parts; holds = i.holds }

-- A text more is gathered.
pub gathered_more : (all : List (List ℕ)) (before now : Option (List ℕ)) (g h text : List ℕ) (rest : List (List ℕ)) → h ≡ g ++ text → IsGathered all before now g (text ∷ rest)
    → IsGathered all before now h rest
gathered_more all before now g h text rest e i = record {
  written = i.written;
  waiting = i.waiting ++ text ∷ [];
  parts = i.parts ∙ ap (λ z. i.written ++ z) (sym (append_assoc i.waiting (text ∷ []) rest));
  holds = i.holds;
  gathers = e ∙ (ap (λ z. z ++ text) i.gathers ∙ (ap (λ z. concat i.waiting ++ z) (sym (append-nil text)) ∙ sym (concat-append i.waiting (text ∷ []))));
}

-- Nothing is left.
pub all_written : (all : List (List ℕ)) (before now : Option (List ℕ)) → IsGathered all before now [] [] → Grew (concat all) before now
all_written all before now i = subst (λ z. Grew z before now) joined i.holds
  where
    joined : concat i.written ≡ concat all
    joined = sym (append-nil (concat i.written))
        ∙ (ap (λ z. concat i.written ++ z) (i.gathers ∙ ap concat (sym (append-nil i.waiting))) ∙ (sym (concat-append i.written (i.waiting ++ [])) ∙ ap concat (sym i.parts)))

-- A prefix of joined texts is the first of them and a prefix of the next one.
record Torn (texts : List (List ℕ)) (k : ℕ) : Type 0 where
  pub first : List (List ℕ)
  pub torn : List ℕ
  pub rest : List (List ℕ)
  pub bytes : ℕ
  pub parts : texts ≡ first ++ torn ∷ rest
  pub is : take k (concat texts) ≡ concat first ++ take bytes torn

tear : (x : List ℕ) (xs : List (List ℕ)) (k : ℕ) → Torn (x ∷ xs) k
tear x [] k = record { first = []; torn = x; rest = []; bytes = k; parts = refl; is = ap (take k) (append-nil x) }
tear x (y ∷ ys) k = by_length (nat_le k (length x)) refl (tear y ys (k - length x))
  where
    least : (n m : ℕ) → m < n → m ≤ n
    least n m l = omega (arith, l)

    more : (n m : ℕ) → m ≤ n → n ≡ m + (n - m)
    more n m l = omega (arith, l)

    past : length x ≤ k → take k (x ++ concat (y ∷ ys)) ≡ x ++ take (k - length x) (concat (y ∷ ys))
    past l = ap (λ n. take n (x ++ concat (y ∷ ys))) (more k (length x) l) ∙ take-append-add x (concat (y ∷ ys)) (k - length x)

    later : Torn (y ∷ ys) (k - length x) → length x ≤ k → Torn (x ∷ y ∷ ys) k
    later t l = record {
      first = x ∷ t.first;
      torn = t.torn;
      rest = t.rest;
      bytes = t.bytes;
      parts = ap (λ z. x ∷ z) t.parts;
      is = past l ∙ (ap (λ z. x ++ z) t.is ∙ sym (append_assoc x (concat t.first) (take t.bytes t.torn)));
    }

    by_length : (b : Bool) → nat_le k (length x) ≡ b → Torn (y ∷ ys) (k - length x) → Torn (x ∷ y ∷ ys) k
    by_length true e t = record { first = []; torn = x; rest = y ∷ ys; bytes = k; parts = refl; is = take-append-le k x (concat (y ∷ ys)) (leb-true k (length x) e) }
    by_length false e t = later t (least k (length x) (leb-false k (length x) e))

torn_from : (all : List (List ℕ)) (before now next : Option (List ℕ)) (g : List ℕ) (rest : List (List ℕ)) (i : IsGathered all before now g rest) (k : ℕ) → Grew (take k g) now next → Torn i.waiting k
    → TearsText all before next
torn_from all before now next g rest i k w t = record {
  first = i.written ++ t.first;
  torn = t.torn;
  rest = t.rest ++ rest;
  bytes = t.bytes;
  parts = i.parts ∙ (ap (λ z. i.written ++ (z ++ rest)) t.parts
      ∙ (ap (λ z. i.written ++ z) (append_assoc t.first (t.torn ∷ t.rest) rest) ∙ sym (append_assoc i.written t.first (t.torn ∷ (t.rest ++ rest)))));
  holds = subst (λ z. Grew z before next) joined (grew_on (concat i.written) (take k g) before now next i.holds w);
}
  where
    joined : concat i.written ++ take k g ≡ concat (i.written ++ t.first) ++ take t.bytes t.torn
    joined = ap (λ z. concat i.written ++ take k z) i.gathers
        ∙ (ap (λ z. concat i.written ++ z) t.is ∙ (sym (append_assoc (concat i.written) (concat t.first) (take t.bytes t.torn))
        ∙ ap (λ z. z ++ take t.bytes t.torn) (sym (concat-append i.written t.first))))

-- What is gathered is written in part.
pub tears : (all : List (List ℕ)) (before now next : Option (List ℕ)) (g : List ℕ) (rest : List (List ℕ)) (k : ℕ) → (g ≡ [] → ⊥) → Grew (take k g) now next → IsGathered all before now g rest
    → TearsText all before next
tears all before now next g rest k some w i = by_waiting i.waiting refl
  where
    by_waiting : (ws : List (List ℕ)) → i.waiting ≡ ws → TearsText all before next
    by_waiting [] e = absurd (some (i.gathers ∙ ap concat e))
    by_waiting (x ∷ xs) e = torn_from all before now next g rest i k w (subst (λ z. Torn z k) (sym e) (tear x xs k))

-- A list without members.
pub is_empty_list : (xs : List ℕ) → (length xs == 0) ≡ true → xs ≡ []
is_empty_list [] e = refl
is_empty_list (x ∷ xs) e = absurd (none (length xs) (eqb-true (length (x ∷ xs)) 0 e))
  where
    none : (n : ℕ) → suc n ≡ 0 → ⊥
    none n h = cc

pub some_list : (xs : List ℕ) → (length xs == 0) ≡ false → xs ≡ [] → ⊥
some_list [] e h = cc
some_list (x ∷ xs) e h = cc

-- The one text is written in part.
pub tears_one : (text : List ℕ) (before now : Option (List ℕ)) → ((k : ℕ) × (now ≡ option_map (added (take k text)) before)) → TearsText (text ∷ []) before now
tears_one text before now t = record { first = []; torn = text; rest = []; bytes = t.0; parts = refl; holds = t.1 }

-- What is gathered is written, or a part of it.
pub page_written : (all : List (List ℕ)) (before now next : Option (List ℕ)) (g bytes h : List ℕ) (rest : List (List ℕ)) → bytes ≡ g → h ≡ [] → next ≡ option_map (added bytes) now
    → IsGathered all before now g rest → IsGathered all before next h rest
page_written all before now next g bytes h rest e n w i =
    subst (λ z. IsGathered all before next z rest) (sym n) (written_all all before now g rest i next (w ∙ ap (λ z. option_map (added z) now) e))

pub page_torn : (all : List (List ℕ)) (before now next : Option (List ℕ)) (g bytes : List ℕ) (rest : List (List ℕ)) → bytes ≡ g → (g ≡ [] → ⊥)
    → ((k : ℕ) × (next ≡ option_map (added (take k bytes)) now)) → IsGathered all before now g rest → TearsText all before next
page_torn all before now next g bytes rest e some w i = tears all before now next g rest w.0 some (w.1 ∙ ap (λ z. option_map (added (take w.0 z)) now) e) i

-- The page could not be written.
pub page_failed : (all : List (List ℕ)) (before now next : Option (List ℕ)) (g bytes : List ℕ) (rest : List (List ℕ)) (r : Result (Unit {0}) Fault) (z : Result (Unit {0}) Ending) (y : Ending)
    → Passes r z → z ≡ Err y → bytes ≡ g → (g ≡ [] → ⊥) → IsAfterAppend r now next bytes added → IsGathered all before now g rest → TextLeaves all (Err y) before next
page_failed all before now next g bytes rest r z y h q e some w i =
    passed (λ s. s ≡ Err y → TextLeaves all (Err y) before next) r z h
    (λ x p k. cc)
    (λ p k. subst (λ (s : Result (Unit {0}) Ending). TextLeaves all s before next) k (page_torn all before now next g bytes rest e some (rw p at w) i))
    (λ p k. subst (λ (s : Result (Unit {0}) Ending). TextLeaves all s before next) k (let same : next ≡ now = rw p at w in rw same (some_written all before now g rest i)))
    q

-- The page was written.
pub page_passed : (now next : Option (List ℕ)) (bytes : List ℕ) (r : Result (Unit {0}) Fault) (z : Result (Unit {0}) Ending) (y : Unit {0}) → Passes r z → z ≡ Ok y
    → IsAfterAppend r now next bytes added → next ≡ option_map (added bytes) now
page_passed now next bytes r z y h q w =
    passed (λ s. s ≡ Ok y → next ≡ option_map (added bytes) now) r z h
    (λ x p k. rw p at w)
    (λ p k. cc)
    (λ p k. cc)
    q

-- One text is written, as its write answers.
pub text_leaves : (text : List ℕ) (before now : Option (List ℕ)) (r : Result (Unit {0}) Fault) (z : Result (Unit {0}) Ending) → Passes r z → IsAfterAppend r before now text added
    → TextLeaves (text ∷ []) z before now
text_leaves text before now r z h t =
    passed (λ y. TextLeaves (text ∷ []) y before now) r z h
    (λ x e. let w : now ≡ option_map (added text) before = rw e at t in w ∙ ap (λ y. option_map (added y) before) (sym (append-nil text)))
    (λ e. tears_one text before now (rw e at t))
    (λ e. let w : now ≡ before = rw e at t in rw w (some_written (text ∷ []) before before [] (text ∷ []) (begins (text ∷ []) before)))

pub text_counted : (before now : ℕ) (r : Result (Unit {0}) Fault) (z : Result (Unit {0}) Ending) → Passes r z → Counts r before now → TextCounted z before now
text_counted before now r z h c =
    passed (λ y. TextCounted y before now) r z h
    (λ x e. rw e at c)
    (λ e. rw e at c)
    (λ e. rw e at c)

-- The last page is written.
pub last_page : (all : List (List ℕ)) (before now : Option (List ℕ)) (result : Result (Unit {0}) Ending) (h : List ℕ) → PageLeaves all before result h [] now → OnOk result (h ≡ [])
    → TextLeaves all result before now
last_page all before now (Ok x) h i e = all_written all before now (subst (λ z. IsGathered all before now z []) e i)
last_page all before now (Err e) h i n = i

-- A text by its characters.
pub text_bytes : (bytes text : List ℕ) → IsUtf8 bytes → chars bytes ≡ text → bytes ≡ encode_utf8_all text
text_bytes bytes text u e = sym (encodes-chars bytes u) ∙ ap encode_utf8_all e

-- What is written for an event, by what writes it.
pub writer_chunk : (json : Bool) (p : Parts) → chunk_of (writer_of json p) ≡ p
writer_chunk true p = refl
writer_chunk false p = refl

pub writer_bytes : (json : Bool) (p : Parts) (depth : ℕ) (n : NodeAt) → encode_utf8_all (text_by (writer_of json p) depth n) ≡ event_bytes json depth p n
writer_bytes true p depth n = refl
writer_bytes false p depth n = refl

-- An event's text after another, in UTF-8.
pub written_more : (old new text : List ℕ) → new ≡ old ++ text → encode_utf8_all new ≡ encode_utf8_all old ++ encode_utf8_all text
written_more old new text h = ap encode_utf8_all h ∙ encodes-append old text
