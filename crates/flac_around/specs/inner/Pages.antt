-- For proofs: the parts of a page that was read, and what an input is in which none was.
use Rattle.std.specs.Prelude.{◌≡◌, ℕ, ◌+◌, Bool, true, List, [], ◌++◌, length, take, drop, is_some}
use Rattle.flac_bits.specs.declared.source.Source as source
use Rattle.flac_around.specs.inner.Pulling.{GivesBoth}
use Rattle.flac_around.specs.declared.page_reading.BodyRead.{BodyRead}
use Rattle.flac_around.specs.declared.page_reading.PageRead.{PageRead}
use Rattle.flac_around.specs.declared.trimmed.Given.{Given}
use Rattle.flac_around.specs.EmptyPackets.{Page, begins_page, is_cut, count_at, page_bytes, given_for, leaves_out, trimmed_from}

-- a page of these parts, of which the checksum is in the first
abbrev pub page_of : (lead body : List ℕ) → Page
page_of lead body = record { fields = take 22 lead; check = take 4 (drop 22 lead); lacing = drop 27 lead; body = body }

-- these are the bytes of a page up to its segments
pub record IsLead (lead : List ℕ) : Type 0 where
  pub begins : begins_page lead ≡ true
  pub count : length lead ≡ 27 + count_at lead

-- no page is at the start, and none is cut off by an error
abbrev pub IsPlain : (fails : Bool) → List ℕ → Type 0
IsPlain fails bytes = (left_out : Bool) → trimmed_from fails left_out bytes ≡ bytes

-- this page is at the start of the first bytes, and the second ones come after it
abbrev pub GivesPage : (fails : Bool) → Page → (old new : List ℕ) → Type 0
GivesPage fails p old new = (left_out : Bool) → trimmed_from fails left_out old ≡ page_bytes (given_for left_out p) ++ trimmed_from fails (leaves_out left_out p) new

-- ---- of what a source has to give, if its bytes are known

-- no page is at the start
abbrev pub IsPlainHere : {S : Type 0} → source.Ghosts S → (old : S) → Type 0
IsPlainHere g old = g.known old ≡ true → IsPlain (is_some ((g.after old).fails)) (g.coming old)

-- no page is at the start of these bytes and what comes after them
abbrev pub IsPlainAfter : {S : Type 0} → source.Ghosts S → (old : S) → (lead : List ℕ) → Type 0
IsPlainAfter g old lead = g.known old ≡ true → IsPlain (is_some ((g.after old).fails)) (lead ++ g.coming old)

-- these bytes and what comes are cut off inside a page
abbrev pub IsCutAfter : (lead coming : List ℕ) → Type 0
IsCutAfter lead coming = is_cut (lead ++ coming) ≡ true

-- this page begins with these bytes, and the others of it were given
abbrev pub TakesPage : {S : Type 0} → source.Ghosts S → (old new : S) → (lead : List ℕ) → Page → Type 0
TakesPage g old new lead p = g.known old ≡ true → (fails : Bool) → GivesPage fails p (lead ++ g.coming old) (g.coming new)

-- the same of what was read: if it is a page, it begins with these bytes
abbrev pub TakesBody : {S : Type 0} → source.Ghosts S → (old new : S) → (lead body : List ℕ) → BodyRead → Type 0
TakesBody g old new lead body r = r.is_page ≡ true → TakesPage g old new lead (page_of lead (take r.end body))

-- what was read of a page was given
abbrev pub GivesRead : {S : Type 0} → source.Ghosts S → (old new : S) → (lead body : List ℕ) → PageRead → Type 0
GivesRead g old new lead body r = GivesBoth g old new (take r.lead lead) (take r.body body)

-- if it is a page, all of it was given
abbrev pub TakesRead : {S : Type 0} → source.Ghosts S → (old new : S) → (lead body : List ℕ) → PageRead → Type 0
TakesRead g old new lead body r = r.is_page ≡ true → TakesPage g old new [] (page_of (take r.lead lead) (take r.body body))

-- these are the bytes of what is given in place of a page
abbrev pub IsGivenFor : (left_out : Bool) → Page → (lead body : List ℕ) → Type 0
IsGivenFor left_out p lead body = lead ++ body ≡ page_bytes (given_for left_out p)

-- the same of the first of these bytes, as many as are given
abbrev pub IsGiven : (left_out : Bool) → Page → (lead body : List ℕ) → Given → Type 0
IsGiven left_out p lead body given = IsGivenFor left_out p (take given.lead lead) (take given.body body)
