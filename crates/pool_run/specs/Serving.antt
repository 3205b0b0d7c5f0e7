-- What `serve` is to serve, by the words of the command line and the files that they name.
use Rattle.std.specs.Prelude.{◌≡◌, ℕ, Bool, true, false, List, Option, Some}
use Rattle.pool_base.specs.Outside.{Told}
use Rattle.pool_command.specs.Command.{command_of}
use Rattle.pool_command.specs.declared.command.Command.{Command}
use Rattle.pool_command.specs.declared.command.Command.TheVariants.{Play, Generate, Serve}
use Rattle.pool_config.specs.Configuration.{IsConfiguration}
use Rattle.pool_config.specs.declared.config.Config.{Config}
use Rattle.pool_run.specs.Texts.{config_name, schema_name, IsRead}
use Rattle.pool_run.specs.declared.served.Served.{Served}
use Rattle.schema.specs.Reading.{Says}
use Rattle.schema.specs.declared.catalogue.TableDef.{TableDef}

-- to serve
abbrev pub is_serve : Command → Bool
is_serve (Play config schema script journal) = false
is_serve (Generate config schema number size) = false
is_serve (Serve config schema) = true

-- the words are no command to serve
abbrev pub NamesNoServe : List (List ℕ) → Type 0
NamesNoServe words = (command : Command) → command_of words ≡ Some command → is_serve command ≡ false

-- the configuration is that of the file which the command names
pub record HasConfig (command : Command) (contents : List ℕ → Told) (config : Config) : Type 0 where
  pub text : List ℕ
  pub read : IsRead (contents (config_name command)) 65536 (Some text)
  pub says : IsConfiguration text config

-- the tables are those of the file which the command names
pub record HasTables (command : Command) (contents : List ℕ → Told) (tables : List TableDef) : Type 0 where
  pub text : List ℕ
  pub read : IsRead (contents (schema_name command)) 262144 (Some text)
  pub says : Says text tables

-- the words are a command to serve, and the configuration and the tables are those of its files
pub record IsServed (words : List (List ℕ)) (contents : List ℕ → Told) (served : Served) : Type 0 where
  pub command : Command
  pub is : command_of words ≡ Some command
  pub serves : is_serve command ≡ true
  pub config : HasConfig command contents served.config
  pub tables : HasTables command contents served.tables
