-- The part that a reading handle shows. "A reading handle keeps the blob beside its size, for the few calls that show a template's
-- BinXML: that part, or the empty part if size runs past the bytes or start plus length past size." (finding a template)
use Rattle.std.specs.Prelude.{ℕ, ◌+◌, ◌≡◌, ◌&&◌, List, [], length, take, drop, leb}
use Rattle.blob.specs.Reading.{choose}

unfoldable pub shown : (bytes : List ℕ) → (size start len : ℕ) → List ℕ
shown bytes size start len = choose (leb size (length bytes) && leb (start + len) size) (take len (drop start bytes)) []

-- What a handle's calls may show: this, and nothing else. It is what the code promises.
abbrev pub AllowedPart : (bytes : List ℕ) → (size start len : ℕ) → (part : List ℕ) → Type 0
AllowedPart bytes size start len part = part ≡ shown bytes size start len
