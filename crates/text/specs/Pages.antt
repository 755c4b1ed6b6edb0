-- A text in a lent space. Definitions only.
use Rattle.std.specs.Prelude.{ℕ, List, Option, Some, None}
use Rattle.std.specs.Borrow.{MutBor}
use Rattle.text.specs.Ascii.{ascii}
use Rattle.text.specs.Space.{put_at, behind}
use Rattle.text.specs.declared.page.Page.{Page}

-- no text yet
abbrev pub front : MutBor (List ℕ) → Page
front space = record { space = space; at = 0 }

-- the text goes on with t
abbrev pub put : Page → List ℕ → Page
put p t = record p { space = record p.space { now = put_at p.space.now p.at t }; at = behind p.space.now p.at t }

-- `-` for what is absent
abbrev pub or_dash : {A : Type 0} → (A → List ℕ) → Option A → List ℕ
or_dash text None = ascii "-"
or_dash text (Some x) = text x
