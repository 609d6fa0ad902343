-- How large an image may be. Definitions only.
use Rattle.std.specs.Prelude.{Bool, ◌||◌, ℕ, ltb}

-- an image side above 16,384
unfoldable pub sides_too_large_of : ℕ → ℕ → Bool
sides_too_large_of w h = ltb 16384 w || ltb 16384 h
