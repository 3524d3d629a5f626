mod ListLaws
