-- The metadata record of an output.
use Rattle.std.specs.Prelude.{◌≡◌, ℕ, List}
use Rattle.jfr_meta.specs.Body.{Body}
use Rattle.jfr_meta.specs.Slimmed.{bytes_of_body}

-- The bytes are a metadata record whose size takes five bytes.
pub record IsMetadataRecord (b : List ℕ) : Type 0 where
  pub body : Body
  pub bytes : b ≡ bytes_of_body body
