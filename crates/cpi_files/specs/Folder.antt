-- The files of a folder: the one that a path means, and its log.
use Rattle.std.specs.Prelude.{◌≢◌, ◌≤◌, ◌⊎◌, ⊤, ℕ, List, [], ◌∷◌, ◌++◌, Option, Some, None, IsFalse, codes}
use Rattle.std.specs.Prelude.{nat_eq}
use Rattle.std.specs.List.{starts_with}
use Rattle.std.specs.Path.{path_parent}
use Rattle.sqlite_disk.specs.declared.Files.{Files}
use Rattle.cpi_files.specs.declared.file.TheConstants.{EMPTY_LOG}
use Rattle.cpi_files.specs.declared.folder.Folder.{Ghosts}
use Rattle.cpi_files.specs.declared.folder.Found.{Found}
use Rattle.cpi_files.specs.declared.folder.Found.TheVariants.{Missing, There, Unread}

-- the library of the database takes the text for a path
abbrev pub IsPath : List ℕ → Type 0
IsPath words = (words ≢ codes ":memory:") × IsFalse (starts_with nat_eq words (codes "file:"))

-- the parent of a path, or else the folder at hand
abbrev pub or_here : Option (List ℕ) → List ℕ
or_here None = codes "."
or_here (Some []) = codes "."
or_here (Some (byte ∷ bytes)) = byte ∷ bytes

-- the path of the folder that a file is in
abbrev pub folder_of : List ℕ → List ℕ
folder_of path = or_here (path_parent path)

-- a file couldn't be opened
abbrev pub IsUnopened : {File : Type 0} → Found File → Type 0
IsUnopened (There file) = ⊥
IsUnopened Missing = ⊤
IsUnopened Unread = ⊤

-- the open didn't find that there is no file
abbrev pub IsKnown : {File : Type 0} → Found File → Type 0
IsKnown (There file) = ⊤
IsKnown Missing = ⊥
IsKnown Unread = ⊤

module _ {F File Medium : Type 0} (g : Ghosts F File Medium) where
  -- there is no file at the path, in a folder that is there
  abbrev pub IsMissing : F → List ℕ → Type 0
  IsMissing folder path = IsPath path × g.finds folder path Missing
      × ((there : File) × g.finds folder (folder_of path) (There there))

  -- no look at the path or at its folder shows that
  abbrev pub IsNotMissing : F → List ℕ → Type 0
  IsNotMissing folder path = (IsPath path → ⊥)
      ⊎ (((found : Found File) × g.finds folder path found × IsKnown found)
      ⊎ ((found : Found File) × g.finds folder (folder_of path) found × IsUnopened found))

  -- an open found no log, or one that has no bytes to lose
  abbrev pub HasNoBytes : Found File → Type 0
  HasNoBytes Missing = ⊤
  HasNoBytes (There log) = (length : ℕ) × g.measures log (Some length) × (length ≤ EMPTY_LOG)
  HasNoBytes Unread = ⊥

  -- the file is there, or it has no log with bytes to lose
  abbrev pub HasNoLoneLog : F → List ℕ → Type 0
  HasNoLoneLog folder path = IsNotMissing folder path
      ⊎ ((log : Found File) × g.finds folder (path ++ codes "-wal") log × HasNoBytes log)

  -- The path is one, and no log is there without its file. If there was no file, one was made. Then either these two
  -- files of an office were opened, or opening them failed.
  pub record IsMadeAndOpened (path : List ℕ) (was : F) (files : Option (Files Medium)) (is : F) : Type 0 where
    pub plain : IsPath path
    pub no_lone_log : HasNoLoneLog was path
    pub made : F
    pub makes : g.makes was path made
    pub opens : g.opens made path files is
