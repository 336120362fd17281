-- What is noted of the files stays true by each call.
use Rattle.std.proofs.Common.{◌≡◌, ◌≢◌, ℕ, ◌+◌, ◌-◌, ◌^◌, min, Bool, true, false, List, [], Option, None, Some, Result, Ok, Err, refl, ◌∙◌, subst, sym}
use Rattle.std.proofs.lemmas.Bool.{false≢true}
use Rattle.ut_outside.specs.declared.disk.Which.{Which}
use Rattle.ut_outside.specs.declared.disk.Which.TheVariants.{Pages}
use Rattle.ut_files.specs.declared.folder.Deed.{Deed}
use Rattle.ut_files.specs.declared.folder.Deed.TheVariants as deeds
use Rattle.ut_files.specs.declared.file_set.FileSet.{FileSet}
use Rattle.ut_files.specs.declared.files.Hold.{Hold}
use Rattle.ut_files.specs.declared.files.Hold.TheVariants as holds
use Rattle.ut_files.specs.FileSets.{is_in, with_file}
use Rattle.ut_files.specs.Deeds.{Done, Adds, Notes, KeepsName, AreFilled, IsHeld, IsMissing, IsNamed, failed, opening}
use Rattle.ut_files.specs.Standing.{Files, HoldsStore, IsSought, Stands}
use Rattle.ut_files.proofs.DeedLemmas.{named_kept, named_now, filled_now, filled_kept, held_now, held_kept, missing_now, missing_kept}
use Rattle.ut_files.proofs.FileSetLemmas.{differs, added, is_pages_kept}

-- the files with these parts
abbrev pub files : Option Done → Hold → FileSet → Files
files d hold named = record { done = d; hold = hold; named = named }

-- ---- a call that has nothing to do with the page file

store_kept : (a b : Option Done) (deed : Deed) (bytes : List ℕ) (hold : Hold) (named : FileSet) → Adds deed bytes a b → KeepsName Pages deed → HoldsStore hold a named → HoldsStore hold b named
store_kept a b deed bytes holds.Unsought named adds keeps store = store
store_kept a b deed bytes holds.Missing named adds keeps store = (filled_kept a b deed bytes adds store.0, missing_kept Pages a b deed bytes adds keeps store.1, store.2)
store_kept a b deed bytes holds.Held named adds keeps store = (filled_kept a b deed bytes adds store.0, held_kept a b deed bytes adds keeps store.1, store.2)
store_kept a b deed bytes holds.Lost named adds keeps store = store

-- a call that did this
pub stands_added : (a b : Option Done) (deed : Deed) (bytes : List ℕ) (hold : Hold) (named : FileSet)
    → Adds deed bytes a b → KeepsName Pages deed → ((file : Which) → is_in file named ≡ true → KeepsName file deed) → Stands (files a hold named) → Stands (files b hold named)
stands_added a b deed bytes hold named adds keeps each stands = record {
  store = store_kept a b deed bytes hold named adds keeps stands.store;
  names = λ file is. named_kept file a b deed bytes adds (each file is) (stands.names file is);
}

-- what was done is what it was, however many calls failed
store_counted : (o : Done) (failures : ℕ) (hold : Hold) (named : FileSet) → HoldsStore hold (Some o) named
    → HoldsStore hold (Some (record { deeds = o.deeds; bytes = o.bytes; failures = failures })) named
store_counted o failures holds.Unsought named store = store
store_counted o failures holds.Missing named store = store
store_counted o failures holds.Held named store = store
store_counted o failures holds.Lost named store = store

failed_stands : (a : Option Done) (hold : Hold) (named : FileSet) → Stands (files a hold named) → Stands (files (failed a) hold named)
failed_stands None hold named stands = stands
failed_stands (Some o) hold named stands = record {
  store = store_counted o (min (o.failures + 1) (2 ^ 64 - 1)) hold named stands.store;
  names = stands.names;
}

-- a call that failed
pub stands_failed : (a b : Option Done) (hold : Hold) (named : FileSet) → b ≡ failed a → Stands (files a hold named) → Stands (files b hold named)
stands_failed a b hold named same stands = subst (λ d. Stands (files d hold named)) (sym same) (failed_stands a hold named stands)

-- a call that did this or failed
pub stands_noted : {T E : Type 0} (a b : Option Done) (result : Result T E) (deed : T → Deed) (bytes : T → List ℕ) (hold : Hold) (named : FileSet)
    → Notes a b result deed bytes → ((x : T) (file : Which) → KeepsName file (deed x)) → Stands (files a hold named) → Stands (files b hold named)
stands_noted a b (Ok x) deed bytes hold named notes keeps stands = stands_added a b (deed x) (bytes x) hold named notes (keeps x Pages) (λ file is. keeps x file) stands
stands_noted a b (Err e) deed bytes hold named notes keeps stands = stands_failed a b hold named notes stands

-- ---- another file is opened, or made

opening_keeps : (named : FileSet) (file other : Which) (found : Bool) → is_in file named ≡ false → is_in other named ≡ true → KeepsName other (opening file found)
opening_keeps named file other true out within = differs named file other out within
opening_keeps named file other false out within = tt

pub opening_keeps_pages : (file : Which) (found : Bool) → file ≢ Pages → KeepsName Pages (opening file found)
opening_keeps_pages file true other = other
opening_keeps_pages file false other = tt

pub stands_opened : (a b : Option Done) (file : Which) (found : Bool) (hold : Hold) (named : FileSet)
    → Adds (opening file found) [] a b → file ≢ Pages → is_in file named ≡ false → Stands (files a hold named) → Stands (files b hold named)
stands_opened a b file found hold named adds other out stands =
    stands_added a b (opening file found) [] hold named adds (opening_keeps_pages file found other) (λ f is. opening_keeps named file f found out is) stands

pub stands_made : (a b : Option Done) (file : Which) (hold : Hold) (named : FileSet)
    → Adds (deeds.Made file) [] a b → file ≢ Pages → is_in file named ≡ false → Stands (files a hold named) → Stands (files b hold named)
stands_made a b file hold named adds other out stands =
    stands_added a b (deeds.Made file) [] hold named adds other (λ f is. differs named file f out is) stands

-- the names are durable, and the file is noted as open
store_with : (file : Which) (d : Option Done) (hold : Hold) (named : FileSet) → file ≢ Pages → HoldsStore hold d named → HoldsStore hold d (with_file file named)
store_with file d holds.Unsought named other store = is_pages_kept file named other ∙ store
store_with file d holds.Missing named other store = (store.0, store.1, is_pages_kept file named other ∙ store.2)
store_with file d holds.Held named other store = (store.0, store.1, is_pages_kept file named other ∙ store.2)
store_with file d holds.Lost named other store = is_pages_kept file named other ∙ store

pub stands_named : (a b : Option Done) (file : Which) (hold : Hold) (named after : FileSet)
    → Adds deeds.Named [] a b → after ≡ with_file file named → file ≢ Pages → Stands (files a hold named) → Stands (files b hold after)
stands_named a b file hold named after adds with other stands = record {
  store = subst (HoldsStore hold b) (sym with) (store_with file b hold named other (store_kept a b deeds.Named [] hold named adds tt stands.store));
  names = λ f is. named_now f a b adds;
}

-- ---- the page file

-- what is noted of a store that stands so
pub re_hold : (d : Option Done) (old new : Hold) (named : FileSet) → old ≡ new → Stands (files d old named) → Stands (files d new named)
re_hold d old new named same stands = subst (λ hold. Stands (files d hold named)) same stands

-- it was found while it was unsought, and is to be locked
found_now : (a b : Option Done) (found : Bool) (named : FileSet) → Adds (opening Pages found) [] a b → Stands (files a holds.Unsought named) → Stands (files b holds.Unsought named)
found_now a b found named adds stands = record {
  store = stands.store;
  names = λ f within. named_kept f a b (opening Pages found) [] adds (opening_keeps named Pages f found stands.store within) (stands.names f within);
}

pub stands_found : (a b : Option Done) (found : Bool) (hold : Hold) (named : FileSet) → Adds (opening Pages found) [] a b → hold ≡ holds.Unsought → Stands (files a hold named) → Stands (files b hold named)
stands_found a b found hold named adds is stands = re_hold b holds.Unsought hold named (sym is) (found_now a b found named adds (re_hold a hold holds.Unsought named is stands))

-- it was looked for, and isn't there
missing_then : (a b : Option Done) (found : Bool) → found ≡ false → Adds (opening Pages found) [] a b → IsMissing Pages b
missing_then a b true is adds = absurd (false≢true (sym is))
missing_then a b false is adds = missing_now Pages a b adds

pub stands_missing : (a b : Option Done) (found : Bool) (hold : Hold) (named : FileSet) → AreFilled a → found ≡ false → Adds (opening Pages found) [] a b
    → hold ≡ holds.Unsought → Stands (files a hold named) → Stands (files b holds.Missing named)
stands_missing a b found hold named filled none adds is stands =
    let unsought = re_hold a hold holds.Unsought named is stands in
    let sought = found_now a b found named adds unsought in
    record { store = (filled_kept a b (opening Pages found) [] adds filled, missing_then a b found none adds, sought.store); names = sought.names }

-- it is to be made, and then locked
pub stands_making : (a b : Option Done) (hold : Hold) (named : FileSet) → Adds (deeds.Made Pages) [] a b → hold ≡ holds.Missing → Stands (files a hold named) → Stands (files b holds.Lost named)
stands_making a b hold named adds is stands =
    let missing = re_hold a hold holds.Missing named is stands in
    record {
      store = missing.store.2;
      names = λ f within. named_kept f a b (deeds.Made Pages) [] adds (differs named Pages f missing.store.2 within) (missing.names f within);
    }

pub filled_missing : (a : Option Done) (hold : Hold) (named : FileSet) → hold ≡ holds.Missing → Stands (files a hold named) → AreFilled a
filled_missing a hold named is stands = (re_hold a hold holds.Missing named is stands).store.0

-- it was locked, and then the names were made durable
pub stands_held : (a b c : Option Done) (named after : FileSet) → AreFilled a → Adds deeds.Locked [] a b → Adds deeds.Named [] b c → after ≡ with_file Pages named → Stands (files c holds.Held after)
stands_held a b c named after filled locked durable with = record {
  store = subst (HoldsStore holds.Held c) (sym with) (filled_kept b c deeds.Named [] durable (filled_kept a b deeds.Locked [] locked filled), held_kept b c deeds.Named [] durable tt (held_now a b locked), added Pages named);
  names = λ f is. named_now f b c durable;
}

pub stands_new : (d : Option Done) (named : FileSet) → ((file : Which) → is_in file named ≡ false) → Stands (files d holds.Unsought named)
stands_new d named none = record { store = none Pages; names = λ file is. absurd (false≢true (sym (none file) ∙ is)) }

-- ---- where the store is held

held_store : (d : Option Done) (hold : Hold) (named : FileSet) → hold ≡ holds.Held → Stands (files d hold named) → HoldsStore holds.Held d named
held_store d hold named is stands = (re_hold d hold holds.Held named is stands).store

pub other_than_pages : (d : Option Done) (hold : Hold) (named : FileSet) (file : Which) → hold ≡ holds.Held → is_in file named ≡ false → Stands (files d hold named) → file ≢ Pages
other_than_pages d hold named file is out stands = differs named file Pages out (held_store d hold named is stands).2

pub is_held : (d : Option Done) (hold : Hold) (named : FileSet) → hold ≡ holds.Held → Stands (files d hold named) → IsHeld d
is_held d hold named is stands = (held_store d hold named is stands).1

pub is_filled : (d : Option Done) (hold : Hold) (named : FileSet) → hold ≡ holds.Held → Stands (files d hold named) → AreFilled d
is_filled d hold named is stands = (held_store d hold named is stands).0
