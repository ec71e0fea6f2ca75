pub mod TypesAgain
