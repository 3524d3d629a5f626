-- What the format of a body gives, part by part.
use Rattle.std.specs.Prelude.{◌≡◌, ℕ, ◌<◌, List, Err, true, false, nat_lt}
use Rattle.std.proofs.Common.{ap, arith, refl, ◌∙◌}
use Rattle.jfr_base.specs.declared.flaw.Flaw.{Flaw}
use Rattle.jfr_base.specs.declared.reason.Reason.TheVariants.{Trailing}
use Rattle.jfr_base.specs.Formats.{Format, Done, Stop, ◌>>=◌, refused, integer, run, times}
use Rattle.jfr_meta.specs.Body.{Body, table_string, element_format, body_format, meta_format}
use Rattle.jfr_meta.specs.Heads.{head_format}
use Rattle.jfr_meta.specs.Trees.{Tree}
use Rattle.jfr_meta.proofs.Runs.{ok, bind_ok, bind_err}

-- The head: four integers, one after another.
abbrev pub Four : Type 0
Four = ℕ × ℕ × ℕ × ℕ

abbrev after_start : ℕ → Format Four
after_start start = integer >>= λ duration. integer >>= λ id. integer >>= λ count. Done (start, duration, id, count)

abbrev after_duration : ℕ → ℕ → Format Four
after_duration start duration = integer >>= λ id. integer >>= λ count. Done (start, duration, id, count)

abbrev after_id : ℕ → ℕ → ℕ → Format Four
after_id start duration id = integer >>= λ count. Done (start, duration, id, count)

pub no_start : (x : List ℕ) (end at : ℕ) (w : Flaw) → run integer x end at ≡ Err w → run head_format x end at ≡ Err w
no_start x end at w e = bind_err integer after_start x end at w e

started : (x : List ℕ) (end at : ℕ) (start p : ℕ) → run integer x end at ≡ ok start p → run head_format x end at ≡ run (after_start start) x end p
started x end at start p e = bind_ok integer after_start x end at start p e

pub no_duration : (x : List ℕ) (end at : ℕ) (start p : ℕ) (w : Flaw) → run integer x end at ≡ ok start p → run integer x end p ≡ Err w → run head_format x end at ≡ Err w
no_duration x end at start p w e f = started x end at start p e ∙ bind_err integer (after_duration start) x end p w f

lasted : (x : List ℕ) (end at : ℕ) (start p duration q : ℕ) → run integer x end at ≡ ok start p → run integer x end p ≡ ok duration q
    → run head_format x end at ≡ run (after_duration start duration) x end q
lasted x end at start p duration q e f = started x end at start p e ∙ bind_ok integer (after_duration start) x end p duration q f

pub no_id : (x : List ℕ) (end at : ℕ) (start p duration q : ℕ) (w : Flaw) → run integer x end at ≡ ok start p → run integer x end p ≡ ok duration q → run integer x end q ≡ Err w
    → run head_format x end at ≡ Err w
no_id x end at start p duration q w e f g = lasted x end at start p duration q e f ∙ bind_err integer (after_id start duration) x end q w g

numbered : (x : List ℕ) (end at : ℕ) (start p duration q id r : ℕ) → run integer x end at ≡ ok start p → run integer x end p ≡ ok duration q → run integer x end q ≡ ok id r
    → run head_format x end at ≡ run (after_id start duration id) x end r
numbered x end at start p duration q id r e f g = lasted x end at start p duration q e f ∙ bind_ok integer (after_id start duration) x end q id r g

pub no_count : (x : List ℕ) (end at : ℕ) (start p duration q id r : ℕ) (w : Flaw) → run integer x end at ≡ ok start p → run integer x end p ≡ ok duration q → run integer x end q ≡ ok id r
    → run integer x end r ≡ Err w → run head_format x end at ≡ Err w
no_count x end at start p duration q id r w e f g h = numbered x end at start p duration q id r e f g ∙ bind_err integer (λ count. Done (start, duration, id, count)) x end r w h

pub whole_head : (x : List ℕ) (end at : ℕ) (start p duration q id r count s : ℕ) → run integer x end at ≡ ok start p → run integer x end p ≡ ok duration q → run integer x end q ≡ ok id r
    → run integer x end r ≡ ok count s
    → run head_format x end at ≡ ok (start, duration, id, count) s
unfolding run
whole_head x end at start p duration q id r count s e f g h = numbered x end at start p duration q id r e f g ∙ bind_ok integer (λ count. Done (start, duration, id, count)) x end r count s h

-- The body: the head, followed by the strings and the element.
abbrev pub body_of : Four → List (List ℕ) → Tree → Body
body_of h strings root = record { start = h.0; duration = h.1; id = h.2; strings = strings; root = root }

abbrev pub after_strings : Four → List (List ℕ) → Format Body
after_strings h strings = element_format 16 h.3 >>= λ root. Done (body_of h strings root)

abbrev pub after_head : Four → Format Body
after_head h = times h.3 table_string >>= after_strings h

in_parts : (x : List ℕ) (end at : ℕ) → run body_format x end at ≡ run (head_format >>= after_head) x end at
unfolding body_format
in_parts x end at = refl

-- The whole record: the body, followed by the end.
stopped_ok : (x : List ℕ) (end at : ℕ) (b : Body) (p : ℕ) → run body_format x end at ≡ ok b p → run meta_format x end at ≡ run (Stop (Done b)) x end p
unfolding meta_format
stopped_ok x end at b p e = bind_ok body_format (λ b. Stop (Done b)) x end at b p e

stopped_err : (x : List ℕ) (end at : ℕ) (w : Flaw) → run body_format x end at ≡ Err w → run meta_format x end at ≡ Err w
unfolding meta_format
stopped_err x end at w e = bind_err body_format (λ b. Stop (Done b)) x end at w e

pub no_head : (x : List ℕ) (end at : ℕ) (w : Flaw) → run head_format x end at ≡ Err w → run meta_format x end at ≡ Err w
no_head x end at w e = stopped_err x end at w (in_parts x end at ∙ bind_err head_format after_head x end at w e)

headed : (x : List ℕ) (end at : ℕ) (h : Four) (p : ℕ) → run head_format x end at ≡ ok h p → run body_format x end at ≡ run (after_head h) x end p
headed x end at h p e = in_parts x end at ∙ bind_ok head_format after_head x end at h p e

pub no_strings : (x : List ℕ) (end at : ℕ) (h : Four) (p : ℕ) (w : Flaw) → run head_format x end at ≡ ok h p → run (times h.3 table_string) x end p ≡ Err w → run meta_format x end at ≡ Err w
no_strings x end at h p w e f = stopped_err x end at w (headed x end at h p e ∙ bind_err (times h.3 table_string) (after_strings h) x end p w f)

stringed : (x : List ℕ) (end at : ℕ) (h : Four) (p : ℕ) (strings : List (List ℕ)) (q : ℕ) → run head_format x end at ≡ ok h p → run (times h.3 table_string) x end p ≡ ok strings q
    → run body_format x end at ≡ run (after_strings h strings) x end q
stringed x end at h p strings q e f = headed x end at h p e ∙ bind_ok (times h.3 table_string) (after_strings h) x end p strings q f

pub no_root : (x : List ℕ) (end at : ℕ) (h : Four) (p : ℕ) (strings : List (List ℕ)) (q : ℕ) (w : Flaw) → run head_format x end at ≡ ok h p → run (times h.3 table_string) x end p ≡ ok strings q
    → run (element_format 16 h.3) x end q ≡ Err w
    → run meta_format x end at ≡ Err w
no_root x end at h p strings q w e f g = stopped_err x end at w (stringed x end at h p strings q e f ∙ bind_err (element_format 16 h.3) (λ root. Done (body_of h strings root)) x end q w g)

rooted : (x : List ℕ) (end at : ℕ) (h : Four) (p : ℕ) (strings : List (List ℕ)) (q : ℕ) (root : Tree) (r : ℕ) → run head_format x end at ≡ ok h p → run (times h.3 table_string) x end p ≡ ok strings q
    → run (element_format 16 h.3) x end q ≡ ok root r
    → run body_format x end at ≡ ok (body_of h strings root) r
unfolding run
rooted x end at h p strings q root r e f g = stringed x end at h p strings q e f ∙ bind_ok (element_format 16 h.3) (λ root. Done (body_of h strings root)) x end q root r g

pub left_over : (x : List ℕ) (end at : ℕ) (h : Four) (p : ℕ) (strings : List (List ℕ)) (q : ℕ) (root : Tree) (r : ℕ) → run head_format x end at ≡ ok h p
    → run (times h.3 table_string) x end p ≡ ok strings q → run (element_format 16 h.3) x end q ≡ ok root r
    → r < end → run meta_format x end at ≡ refused r Trailing
unfolding run
left_over x end at h p strings q root r e f g l =
    let t : nat_lt r end ≡ true = grind arith in
    stopped_ok x end at (body_of h strings root) r (rooted x end at h p strings q root r e f g) ∙ rw t refl

pub whole_body : (x : List ℕ) (end at : ℕ) (h : Four) (p : ℕ) (strings : List (List ℕ)) (q : ℕ) (root : Tree) (r : ℕ) → run head_format x end at ≡ ok h p
    → run (times h.3 table_string) x end p ≡ ok strings q → run (element_format 16 h.3) x end q ≡ ok root r
    → r ≡ end → run meta_format x end at ≡ ok (body_of h strings root) end
unfolding run
whole_body x end at h p strings q root r e f g l =
    let t : nat_lt r end ≡ false = grind arith in
    stopped_ok x end at (body_of h strings root) r (rooted x end at h p strings q root r e f g) ∙ (rw t refl ∙ ap (ok (body_of h strings root)) l)
